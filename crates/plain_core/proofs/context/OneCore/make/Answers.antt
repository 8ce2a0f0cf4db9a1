use Rattle.std.specs.Prelude.{refl}
use Rattle.std.proofs.Common.{sym, subst}
use Rattle.zq_base.specs.declared.options.Options.{Options}
use Rattle.spec_control.specs.declared.request.Req.TheVariants.{Socket as MakeSocket}
use Rattle.zq_world.specs.MayAsk.{MayMake}
use Rattle.plain_core.specs.Sound.{pieces_in, IsAsked, Requests}
use Rattle.plain_core.proofs.KeepLemmas.{keeps_all, keeps_lent, keeps_same}
use Rattle.plain_core.proofs.MadeLemmas.{makes_one, new_made}
use Rattle.plain_core.proofs.MakeLemmas.{makes_or_refuses}
use Rattle.plain_core.proofs.context.OneCore.make.Goals as goal

pub ask_socket-requires : goal.ask_socket-requires
ask_socket-requires g c = record { may = subst MayMake (sym c.in_ok-copied.ensures) c.requires.may }

pub made_of-requires : goal.made_of-requires
made_of-requires g c = record { reply = makes_or_refuses c.args.caller c.args.kind c.in_ok-copied.copied c.in_ok-reply.reply c.args.self.now.desk c.ask_socket.new.self.desk c.in_ok-reply.ensures.asks }

pub returns-clause-ok : goal.returns-clause-ok
returns-clause-ok g c =
    makes_one g.P.Pipes.known c.args.caller c.args.kind c.args.options.now c.args.self.now c.ask_socket.new.self (pieces_in c.args.self.now) (pieces_in c.ask_socket.new.self) c.in_ok-reply.reply c.made_of.result c.made_of.ensures.reply c.made_of.ensures.fresh
    (subst (λ (o : Options). IsAsked c.args.caller (MakeSocket c.args.kind o) c.in_ok-reply.reply c.args.self.now.desk c.ask_socket.new.self.desk) c.in_ok-copied.ensures c.in_ok-reply.ensures.asks)
    (subst (λ (o : Options). Requests c.args.caller (MakeSocket c.args.kind o) c.in_ok-reply.reply c.ask_socket.new.self.desk.items (pieces_in c.args.self.now) (pieces_in c.ask_socket.new.self)) c.in_ok-copied.ensures c.in_ok-reply.ensures.ok)

pub returns-clause-is_new : goal.returns-clause-is_new
returns-clause-is_new g c =
    new_made g.P.Pipes.known c.args.caller c.args.kind c.args.options.now c.args.self.now c.ask_socket.new.self c.in_ok-reply.reply c.made_of.result c.made_of.ensures.reply c.made_of.ensures.fresh
    (subst (λ (o : Options). IsAsked c.args.caller (MakeSocket c.args.kind o) c.in_ok-reply.reply c.args.self.now.desk c.ask_socket.new.self.desk) c.in_ok-copied.ensures c.in_ok-reply.ensures.asks)

pub returns-clause-keeps : goal.returns-clause-keeps
returns-clause-keeps g c = keeps_all g.row.P-Waker.Denot g.P.Pipes.known c.args.caller c.args.self.now c.ask_socket.new.self c.ask_socket.ensures.pipes c.ask_socket.ensures.wanted c.in_ok-reply.ensures.keeps

pub returns-in_err-copied-clause-keeps : goal.returns-in_err-copied-clause-keeps
returns-in_err-copied-clause-keeps g c = keeps_same g.row.P-Waker.Denot g.P.Pipes.known c.args.self.now c.args.self.now refl

pub returns-in_err-reply-clause-keeps : goal.returns-in_err-reply-clause-keeps
returns-in_err-reply-clause-keeps g c = keeps_lent g.row.P-Waker.Denot g.P.Pipes.known c.args.self.now c.ask_socket.new.self c.in_err-reply.ensures.err
