use Rattle.std.proofs.Common.{refl, sym, ap, ◌∙◌, subst}
use Rattle.spec_control.specs.declared.request.Req.{Req}
use Rattle.spec_control.specs.declared.request.Req.TheVariants.{Socket as MakeSocket, AskTerm, Bind, Connect, Unbind, Disconnect}
use Rattle.spec_control.specs.declared.request.Reply.TheVariants.{Done as IsDone}
use Rattle.control_laws.proofs.ListLemmas.{never}
use Rattle.spec_control.specs.Held.{asker}
use Rattle.spec_control.specs.OwnAsks.{MayAskOwn}
use Rattle.spec_control.specs.Moments.{items_in}
use Rattle.ctl_plane.specs.Past.{control_of}
use Rattle.desk.specs.Making.{MakesSo}
use Rattle.desk.specs.Asking.{HasMarks}
use Rattle.desk.specs.Coming.{is_close, SendsEnds}
use Rattle.desk.specs.Desk.{AsksOnce}
use Rattle.plain_desk.specs.Lent.{moments_of}
use Rattle.plain_desk.proofs.AskLemmas.{closed_names, closed_sends, closes_once}
use Rattle.plain_desk.proofs.GrowLemmas.{asked_grow, close_grows}
use Rattle.plain_desk.proofs.PlaneLemmas.{ask_caller, ask_given, ask_names, ask_ok}
use Rattle.plain_desk.proofs.one_desk.OneDesk.ask.Goals as goal

pub make_socket-requires : goal.make_socket-requires
make_socket-requires g c = record { options = subst HasMarks c.in-Socket.is c.requires.options }

pub returns-in-Socket-clause-ok : goal.returns-in-Socket-clause-ok
returns-in-Socket-clause-ok g c = ask_ok c.args.request (MakeSocket c.in-Socket.kind c.in-Socket.options) c.in-Socket.is c.args.self.now c.make_socket.new.self c.make_socket.result c.make_socket.ensures.ok c.make_socket.ensures.err

pub returns-in-Socket-clause-given : goal.returns-in-Socket-clause-given
returns-in-Socket-clause-given g c = ask_given c.args.request (MakeSocket c.in-Socket.kind c.in-Socket.options) c.in-Socket.is c.args.self.now c.make_socket.new.self c.make_socket.result c.make_socket.ensures.ok c.make_socket.ensures.err g.P.Pipes.known (g.H.Holder.pipes c.args.holder.now) (g.H.Holder.holding c.args.holder.now) refl

pub returns-in-Socket-clause-names : goal.returns-in-Socket-clause-names
returns-in-Socket-clause-names g c = ask_names c.args.request (MakeSocket c.in-Socket.kind c.in-Socket.options) c.in-Socket.is c.args.self.now c.make_socket.new.self c.make_socket.result c.make_socket.ensures.ok c.make_socket.ensures.err

pub returns-in-Socket-clause-keeps : goal.returns-in-Socket-clause-keeps
returns-in-Socket-clause-keeps g c = (ask_caller c.args.request (MakeSocket c.in-Socket.kind c.in-Socket.options) c.in-Socket.is c.args.self.now c.make_socket.new.self c.make_socket.result c.make_socket.ensures.ok c.make_socket.ensures.err, c.make_socket.ensures.keeps (g.H.Holder.holding c.args.holder.now) c.requires.has)

pub returns-in-AskTerm-clause-ok : goal.returns-in-AskTerm-clause-ok
returns-in-AskTerm-clause-ok g c = ask_ok c.args.request (AskTerm) c.in-AskTerm.is c.args.self.now c.ask_term.new.self c.ask_term.result c.ask_term.ensures.ok c.ask_term.ensures.err

pub returns-in-AskTerm-clause-given : goal.returns-in-AskTerm-clause-given
returns-in-AskTerm-clause-given g c = ask_given c.args.request (AskTerm) c.in-AskTerm.is c.args.self.now c.ask_term.new.self c.ask_term.result c.ask_term.ensures.ok c.ask_term.ensures.err g.P.Pipes.known (g.H.Holder.pipes c.args.holder.now) (g.H.Holder.holding c.args.holder.now) refl

pub returns-in-AskTerm-clause-names : goal.returns-in-AskTerm-clause-names
returns-in-AskTerm-clause-names g c = ask_names c.args.request (AskTerm) c.in-AskTerm.is c.args.self.now c.ask_term.new.self c.ask_term.result c.ask_term.ensures.ok c.ask_term.ensures.err

pub returns-in-AskTerm-clause-keeps : goal.returns-in-AskTerm-clause-keeps
returns-in-AskTerm-clause-keeps g c = (ask_caller c.args.request (AskTerm) c.in-AskTerm.is c.args.self.now c.ask_term.new.self c.ask_term.result c.ask_term.ensures.ok c.ask_term.ensures.err, c.ask_term.ensures.keeps (g.H.Holder.holding c.args.holder.now) c.requires.has)

pub bind_at-requires-clause-open : goal.bind_at-requires-clause-open
bind_at-requires-clause-open g c = subst (λ (q : Req). MayAskOwn (items_in (moments_of c.args.self.now)) q) c.in-Bind.is c.requires.may

pub bind_at-requires-clause-lent : goal.bind_at-requires-clause-lent
bind_at-requires-clause-lent g c = c.requires.lent c.in-Bind.socket.0 (ap asker c.in-Bind.is)

pub bind_at-requires-clause-makes : goal.bind_at-requires-clause-makes
bind_at-requires-clause-makes g c = subst (λ (q : Req). MakesSo (control_of c.args.self.now.past) q g.H.Holder.may_make) c.in-Bind.is c.requires.makes

pub returns-in-Bind-clause-ok : goal.returns-in-Bind-clause-ok
returns-in-Bind-clause-ok g c = ask_ok c.args.request (Bind c.in-Bind.socket c.in-Bind.at) c.in-Bind.is c.args.self.now c.bind_at.new.self c.bind_at.result c.bind_at.ensures.ok c.bind_at.ensures.err

pub returns-in-Bind-clause-given : goal.returns-in-Bind-clause-given
returns-in-Bind-clause-given g c = ask_given c.args.request (Bind c.in-Bind.socket c.in-Bind.at) c.in-Bind.is c.args.self.now c.bind_at.new.self c.bind_at.result c.bind_at.ensures.ok c.bind_at.ensures.err g.P.Pipes.known (g.H.Holder.pipes c.bind_at.new.holder) (g.H.Holder.holding c.args.holder.now) refl

pub returns-in-Bind-clause-names : goal.returns-in-Bind-clause-names
returns-in-Bind-clause-names g c = ask_names c.args.request (Bind c.in-Bind.socket c.in-Bind.at) c.in-Bind.is c.args.self.now c.bind_at.new.self c.bind_at.result c.bind_at.ensures.ok c.bind_at.ensures.err

pub returns-in-Bind-clause-keeps : goal.returns-in-Bind-clause-keeps
returns-in-Bind-clause-keeps g c = (ask_caller c.args.request (Bind c.in-Bind.socket c.in-Bind.at) c.in-Bind.is c.args.self.now c.bind_at.new.self c.bind_at.result c.bind_at.ensures.ok c.bind_at.ensures.err, c.bind_at.ensures.keeps)

pub connect_at-requires-clause-open : goal.connect_at-requires-clause-open
connect_at-requires-clause-open g c = subst (λ (q : Req). MayAskOwn (items_in (moments_of c.args.self.now)) q) c.in-Connect.is c.requires.may

pub connect_at-requires-clause-lent : goal.connect_at-requires-clause-lent
connect_at-requires-clause-lent g c = c.requires.lent c.in-Connect.socket.0 (ap asker c.in-Connect.is)

pub connect_at-requires-clause-makes : goal.connect_at-requires-clause-makes
connect_at-requires-clause-makes g c = subst (λ (q : Req). MakesSo (control_of c.args.self.now.past) q g.H.Holder.may_make) c.in-Connect.is c.requires.makes

pub returns-in-Connect-clause-ok : goal.returns-in-Connect-clause-ok
returns-in-Connect-clause-ok g c = ask_ok c.args.request (Connect c.in-Connect.socket c.in-Connect.at) c.in-Connect.is c.args.self.now c.connect_at.new.self c.connect_at.result c.connect_at.ensures.ok c.connect_at.ensures.err

pub returns-in-Connect-clause-given : goal.returns-in-Connect-clause-given
returns-in-Connect-clause-given g c = ask_given c.args.request (Connect c.in-Connect.socket c.in-Connect.at) c.in-Connect.is c.args.self.now c.connect_at.new.self c.connect_at.result c.connect_at.ensures.ok c.connect_at.ensures.err g.P.Pipes.known (g.H.Holder.pipes c.connect_at.new.holder) (g.H.Holder.holding c.args.holder.now) refl

pub returns-in-Connect-clause-names : goal.returns-in-Connect-clause-names
returns-in-Connect-clause-names g c = ask_names c.args.request (Connect c.in-Connect.socket c.in-Connect.at) c.in-Connect.is c.args.self.now c.connect_at.new.self c.connect_at.result c.connect_at.ensures.ok c.connect_at.ensures.err

pub returns-in-Connect-clause-keeps : goal.returns-in-Connect-clause-keeps
returns-in-Connect-clause-keeps g c = (ask_caller c.args.request (Connect c.in-Connect.socket c.in-Connect.at) c.in-Connect.is c.args.self.now c.connect_at.new.self c.connect_at.result c.connect_at.ensures.ok c.connect_at.ensures.err, c.connect_at.ensures.keeps)

pub unbind-requires : goal.unbind-requires
unbind-requires g c = record { «open» = subst (λ (q : Req). MayAskOwn (items_in (moments_of c.args.self.now)) q) c.in-Unbind.is c.requires.may }

pub returns-in-Unbind-clause-ok : goal.returns-in-Unbind-clause-ok
returns-in-Unbind-clause-ok g c = ask_ok c.args.request (Unbind c.in-Unbind.socket c.in-Unbind.at) c.in-Unbind.is c.args.self.now c.unbind.new.self c.unbind.result c.unbind.ensures.ok c.unbind.ensures.err

pub returns-in-Unbind-clause-given : goal.returns-in-Unbind-clause-given
returns-in-Unbind-clause-given g c = ask_given c.args.request (Unbind c.in-Unbind.socket c.in-Unbind.at) c.in-Unbind.is c.args.self.now c.unbind.new.self c.unbind.result c.unbind.ensures.ok c.unbind.ensures.err g.P.Pipes.known (g.H.Holder.pipes c.args.holder.now) (g.H.Holder.holding c.args.holder.now) refl

pub returns-in-Unbind-clause-names : goal.returns-in-Unbind-clause-names
returns-in-Unbind-clause-names g c = ask_names c.args.request (Unbind c.in-Unbind.socket c.in-Unbind.at) c.in-Unbind.is c.args.self.now c.unbind.new.self c.unbind.result c.unbind.ensures.ok c.unbind.ensures.err

pub returns-in-Unbind-clause-keeps : goal.returns-in-Unbind-clause-keeps
returns-in-Unbind-clause-keeps g c = (ask_caller c.args.request (Unbind c.in-Unbind.socket c.in-Unbind.at) c.in-Unbind.is c.args.self.now c.unbind.new.self c.unbind.result c.unbind.ensures.ok c.unbind.ensures.err, c.unbind.ensures.keeps (g.H.Holder.holding c.args.holder.now) c.requires.has)

pub disconnect-requires-clause-open : goal.disconnect-requires-clause-open
disconnect-requires-clause-open g c = subst (λ (q : Req). MayAskOwn (items_in (moments_of c.args.self.now)) q) c.in-Disconnect.is c.requires.may

pub disconnect-requires-clause-lent : goal.disconnect-requires-clause-lent
disconnect-requires-clause-lent g c = c.requires.lent c.in-Disconnect.socket.0 (ap asker c.in-Disconnect.is)

pub returns-in-Disconnect-clause-ok : goal.returns-in-Disconnect-clause-ok
returns-in-Disconnect-clause-ok g c = ask_ok c.args.request (Disconnect c.in-Disconnect.socket c.in-Disconnect.at) c.in-Disconnect.is c.args.self.now c.disconnect.new.self c.disconnect.result c.disconnect.ensures.ok c.disconnect.ensures.err

pub returns-in-Disconnect-clause-given : goal.returns-in-Disconnect-clause-given
returns-in-Disconnect-clause-given g c = ask_given c.args.request (Disconnect c.in-Disconnect.socket c.in-Disconnect.at) c.in-Disconnect.is c.args.self.now c.disconnect.new.self c.disconnect.result c.disconnect.ensures.ok c.disconnect.ensures.err g.P.Pipes.known (g.H.Holder.pipes c.disconnect.new.holder) (g.H.Holder.holding c.args.holder.now) refl

pub returns-in-Disconnect-clause-names : goal.returns-in-Disconnect-clause-names
returns-in-Disconnect-clause-names g c = ask_names c.args.request (Disconnect c.in-Disconnect.socket c.in-Disconnect.at) c.in-Disconnect.is c.args.self.now c.disconnect.new.self c.disconnect.result c.disconnect.ensures.ok c.disconnect.ensures.err

pub returns-in-Disconnect-clause-keeps : goal.returns-in-Disconnect-clause-keeps
returns-in-Disconnect-clause-keeps g c = (ask_caller c.args.request (Disconnect c.in-Disconnect.socket c.in-Disconnect.at) c.in-Disconnect.is c.args.self.now c.disconnect.new.self c.disconnect.result c.disconnect.ensures.ok c.disconnect.ensures.err, c.disconnect.ensures.keeps)

pub close-requires-clause-gives : goal.close-requires-clause-gives
close-requires-clause-gives g c = c.requires.gives (ap is_close c.in-Close.is)

pub close-requires-clause-open : goal.close-requires-clause-open
close-requires-clause-open g c = subst (λ (q : Req). MayAskOwn (items_in (moments_of c.args.self.now)) q) c.in-Close.is c.requires.may

pub close-requires-clause-lent : goal.close-requires-clause-lent
close-requires-clause-lent g c = c.requires.lent c.in-Close.socket.0 (ap asker c.in-Close.is)

pub returns-in-Close-clause-ok : goal.returns-in-Close-clause-ok
returns-in-Close-clause-ok g c = subst (λ (q : Req). AsksOnce c.args.self.now.caller q IsDone (moments_of c.args.self.now) (moments_of c.close.new.self)) (sym c.in-Close.is) (closes_once g.P.Pipes.known (g.H.Holder.pipes c.close.new.holder) (g.H.Holder.holding c.args.holder.now) c.in-Close.socket c.args.self.now c.close.new.self c.close.ensures.closes)

pub returns-in-Close-clause-given : goal.returns-in-Close-clause-given
returns-in-Close-clause-given g c = subst (λ (q : Req). SendsEnds g.P.Pipes.known (g.H.Holder.pipes c.close.new.holder) (g.H.Holder.holding c.args.holder.now) q c.args.self.now.past.given c.close.new.self.past.given) (sym c.in-Close.is) (closed_sends g.P.Pipes.known (g.H.Holder.pipes c.close.new.holder) (g.H.Holder.holding c.args.holder.now) c.in-Close.socket c.args.self.now c.close.new.self c.close.ensures.closes)

pub returns-in-Close-clause-names : goal.returns-in-Close-clause-names
returns-in-Close-clause-names g c = closed_names g.P.Pipes.known (g.H.Holder.pipes c.close.new.holder) (g.H.Holder.holding c.args.holder.now) c.in-Close.socket c.args.self.now c.close.new.self c.close.ensures.closes

pub returns-in-Close-clause-keeps : goal.returns-in-Close-clause-keeps
returns-in-Close-clause-keeps g c = (c.close.ensures.closes.caller, c.close.ensures.keeps)

pub returns-in-Socket-clause-grows : goal.returns-in-Socket-clause-grows
returns-in-Socket-clause-grows g c = asked_grow c.args.self.now c.make_socket.new.self (MakeSocket c.in-Socket.kind c.in-Socket.options) c.make_socket.result c.make_socket.ensures.ok c.make_socket.ensures.err

pub returns-in-Bind-clause-grows : goal.returns-in-Bind-clause-grows
returns-in-Bind-clause-grows g c = asked_grow c.args.self.now c.bind_at.new.self (Bind c.in-Bind.socket c.in-Bind.at) c.bind_at.result c.bind_at.ensures.ok c.bind_at.ensures.err

pub returns-in-Connect-clause-grows : goal.returns-in-Connect-clause-grows
returns-in-Connect-clause-grows g c = asked_grow c.args.self.now c.connect_at.new.self (Connect c.in-Connect.socket c.in-Connect.at) c.connect_at.result c.connect_at.ensures.ok c.connect_at.ensures.err

pub returns-in-Unbind-clause-grows : goal.returns-in-Unbind-clause-grows
returns-in-Unbind-clause-grows g c = asked_grow c.args.self.now c.unbind.new.self (Unbind c.in-Unbind.socket c.in-Unbind.at) c.unbind.result c.unbind.ensures.ok c.unbind.ensures.err

pub returns-in-Disconnect-clause-grows : goal.returns-in-Disconnect-clause-grows
returns-in-Disconnect-clause-grows g c = asked_grow c.args.self.now c.disconnect.new.self (Disconnect c.in-Disconnect.socket c.in-Disconnect.at) c.disconnect.result c.disconnect.ensures.ok c.disconnect.ensures.err

pub returns-in-Close-clause-grows : goal.returns-in-Close-clause-grows
returns-in-Close-clause-grows g c = close_grows g.P.Pipes.known (g.H.Holder.pipes c.close.new.holder) (g.H.Holder.holding c.args.holder.now) c.in-Close.socket c.args.self.now c.close.new.self c.close.ensures.closes

pub returns-in-Socket-clause-succeeds : goal.returns-in-Socket-clause-succeeds
returns-in-Socket-clause-succeeds g c = λ close. absurd (never (sym (ap is_close c.in-Socket.is) ∙ close))

pub returns-in-AskTerm-clause-succeeds : goal.returns-in-AskTerm-clause-succeeds
returns-in-AskTerm-clause-succeeds g c = λ close. absurd (never (sym (ap is_close c.in-AskTerm.is) ∙ close))

pub returns-in-Bind-clause-succeeds : goal.returns-in-Bind-clause-succeeds
returns-in-Bind-clause-succeeds g c = λ close. absurd (never (sym (ap is_close c.in-Bind.is) ∙ close))

pub returns-in-Connect-clause-succeeds : goal.returns-in-Connect-clause-succeeds
returns-in-Connect-clause-succeeds g c = λ close. absurd (never (sym (ap is_close c.in-Connect.is) ∙ close))

pub returns-in-Unbind-clause-succeeds : goal.returns-in-Unbind-clause-succeeds
returns-in-Unbind-clause-succeeds g c = λ close. absurd (never (sym (ap is_close c.in-Unbind.is) ∙ close))

pub returns-in-Disconnect-clause-succeeds : goal.returns-in-Disconnect-clause-succeeds
returns-in-Disconnect-clause-succeeds g c = λ close. absurd (never (sym (ap is_close c.in-Disconnect.is) ∙ close))

pub returns-in-AskTerm-clause-first : goal.returns-in-AskTerm-clause-first
returns-in-AskTerm-clause-first g c = λ is. c.ask_term.ensures.succeeds

pub bind_at-requires-clause-calm : goal.bind_at-requires-clause-calm
bind_at-requires-clause-calm g c = c.requires.calm

pub connect_at-requires-clause-calm : goal.connect_at-requires-clause-calm
connect_at-requires-clause-calm g c = c.requires.calm

pub bind_at-requires-clause-has : goal.bind_at-requires-clause-has
bind_at-requires-clause-has g c = c.requires.has

pub connect_at-requires-clause-has : goal.connect_at-requires-clause-has
connect_at-requires-clause-has g c = c.requires.has

pub close-requires-clause-has : goal.close-requires-clause-has
close-requires-clause-has g c = c.requires.has

pub disconnect-requires-clause-has : goal.disconnect-requires-clause-has
disconnect-requires-clause-has g c = c.requires.has

pub returns-in-Socket-clause-err : goal.returns-in-Socket-clause-err
returns-in-Socket-clause-err g c = c.make_socket.ensures.err

pub returns-in-Socket-clause-closes : goal.returns-in-Socket-clause-closes
returns-in-Socket-clause-closes g c = λ close. absurd (never (sym (ap is_close c.in-Socket.is) ∙ close))

pub returns-in-AskTerm-clause-err : goal.returns-in-AskTerm-clause-err
returns-in-AskTerm-clause-err g c = c.ask_term.ensures.err

pub returns-in-AskTerm-clause-closes : goal.returns-in-AskTerm-clause-closes
returns-in-AskTerm-clause-closes g c = λ close. absurd (never (sym (ap is_close c.in-AskTerm.is) ∙ close))

pub returns-in-Bind-clause-err : goal.returns-in-Bind-clause-err
returns-in-Bind-clause-err g c = c.bind_at.ensures.err

pub returns-in-Bind-clause-closes : goal.returns-in-Bind-clause-closes
returns-in-Bind-clause-closes g c = λ close. absurd (never (sym (ap is_close c.in-Bind.is) ∙ close))

pub returns-in-Connect-clause-err : goal.returns-in-Connect-clause-err
returns-in-Connect-clause-err g c = c.connect_at.ensures.err

pub returns-in-Connect-clause-closes : goal.returns-in-Connect-clause-closes
returns-in-Connect-clause-closes g c = λ close. absurd (never (sym (ap is_close c.in-Connect.is) ∙ close))

pub returns-in-Unbind-clause-err : goal.returns-in-Unbind-clause-err
returns-in-Unbind-clause-err g c = c.unbind.ensures.err

pub returns-in-Unbind-clause-closes : goal.returns-in-Unbind-clause-closes
returns-in-Unbind-clause-closes g c = λ close. absurd (never (sym (ap is_close c.in-Unbind.is) ∙ close))

pub returns-in-Disconnect-clause-err : goal.returns-in-Disconnect-clause-err
returns-in-Disconnect-clause-err g c = c.disconnect.ensures.err

pub returns-in-Disconnect-clause-closes : goal.returns-in-Disconnect-clause-closes
returns-in-Disconnect-clause-closes g c = λ close. absurd (never (sym (ap is_close c.in-Disconnect.is) ∙ close))

pub returns-in-AskTerm-clause-grows : goal.returns-in-AskTerm-clause-grows
returns-in-AskTerm-clause-grows g c = c.ask_term.ensures.grows
