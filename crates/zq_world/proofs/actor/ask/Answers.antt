use Rattle.std.proofs.Common.{sym, subst}
use Rattle.std.specs.Prelude.{IfOk}
use Rattle.std.proofs.lemmas.Result.{IfOk-weaker}
use Rattle.zq_world.specs.Seats.{sockets_of}
use Rattle.zq_world.specs.Stepping.{at_seats, DoesAsked}
use Rattle.zq_world.proofs.SeatLemmas.{all_kept}
use Rattle.zq_world.proofs.LineLemmas.{asked_term}
use Rattle.zq_world.proofs.actor.ask.Goals as goal

pub returns-in-Term-clause-ok : goal.returns-in-Term-clause-ok
returns-in-Term-clause-ok g c =
    subst (λ line. IfOk c.term.result (λ answer. DoesAsked c.args.caller line answer (at_seats g.W.Sockets.as_open c.args.seats.now c.args.told.now.items (g.W.Sockets.pieces c.args.way.now)) (at_seats g.W.Sockets.as_open c.args.seats.now c.args.told.now.items (g.W.Sockets.pieces c.term.new.self))))
    (sym c.in-Term.is)
    (IfOk-weaker c.term.result _ _ (λ answer h. asked_term c.args.caller answer (sockets_of g.W.Sockets.as_open c.args.seats.now) c.args.told.now.items (g.W.Sockets.pieces c.args.way.now) (g.W.Sockets.pieces c.term.new.self) h) c.term.ensures.ok)

pub returns-in-Term-clause-agree : goal.returns-in-Term-clause-agree
returns-in-Term-clause-agree g c = all_kept g.W.Sockets.as_open g.W.Sockets.agrees g.W.Sockets.was_made c.args.caller c.args.way.now c.term.new.self c.args.seats.now c.term.ensures.keeps c.requires.agree

pub returns-in-Socket-clause-agree : goal.returns-in-Socket-clause-agree
returns-in-Socket-clause-agree g c = c.make.ensures.agree

pub returns-in-Socket-clause-others : goal.returns-in-Socket-clause-others
returns-in-Socket-clause-others g c = c.make.ensures.others

pub make-requires-clause-agree : goal.make-requires-clause-agree
make-requires-clause-agree g c = c.requires.agree

pub call-requires-clause-agree : goal.call-requires-clause-agree
call-requires-clause-agree g c = c.requires.agree

pub call-requires-clause-may : goal.call-requires-clause-may
call-requires-clause-may g c = c.requires.may

pub returns-in-Close-clause-ok : goal.returns-in-Close-clause-ok
returns-in-Close-clause-ok g c =
    subst (λ line. IfOk c.close.result (λ answer. DoesAsked c.args.caller line answer (at_seats g.W.Sockets.as_open c.args.seats.now c.args.told.now.items (g.W.Sockets.pieces c.args.way.now)) (at_seats g.W.Sockets.as_open c.close.new.self c.args.told.now.items (g.W.Sockets.pieces c.close.new.way))))
    (sym c.in-Close.is)
    (IfOk-weaker c.close.result _ _ (λ answer h. h c.args.told.now.items) c.close.ensures.ok)

pub returns-clause-ok : goal.returns-clause-ok
returns-clause-ok g c = c.call.ensures.ok

pub returns-clause-agree : goal.returns-clause-agree
returns-clause-agree g c = c.call.ensures.agree

pub returns-clause-others : goal.returns-clause-others
returns-clause-others g c = c.call.ensures.others

pub returns-in-Close-clause-agree : goal.returns-in-Close-clause-agree
returns-in-Close-clause-agree g c = c.close.ensures.agree

pub returns-in-Close-clause-others : goal.returns-in-Close-clause-others
returns-in-Close-clause-others g c = c.close.ensures.others
