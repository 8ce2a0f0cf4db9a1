use Rattle.std.proofs.Common.{sym, ap, ◌∙◌, subst}
use Rattle.spec_control.specs.declared.request.Req.{Req}
use Rattle.spec_control.specs.declared.request.Req.TheVariants.{Accepted, Shaken}
use Rattle.spec_control.specs.declared.request.Reply.TheVariants.{Done as IsDone}
use Rattle.spec_control.specs.ControlRun.{MayAsk}
use Rattle.spec_control.specs.Held.{asker}
use Rattle.ctl_plane.specs.Past.{control_of}
use Rattle.desk.specs.Asking.{IsOfWorkers, makes_more}
use Rattle.desk.specs.Making.{MakesSo}
use Rattle.control_laws.proofs.ListLemmas.{never}
use Rattle.plain_desk.specs.Lent.{Asks}
use Rattle.plain_desk.proofs.PlaneLemmas.{asks_so}
use Rattle.plain_desk.proofs.one_desk.OneDesk.ask_own.Goals as goal

pub accepted-requires-clause-may : goal.accepted-requires-clause-may
accepted-requires-clause-may g c = subst (λ (q : Req). MayAsk (control_of c.args.self.now.past) q) c.in-Accepted.is c.requires.may

pub accepted-requires-clause-lent : goal.accepted-requires-clause-lent
accepted-requires-clause-lent g c = c.requires.lent c.in-Accepted.listener.0 (ap asker c.in-Accepted.is)

pub returns-in-Accepted-clause-ok : goal.returns-in-Accepted-clause-ok
returns-in-Accepted-clause-ok g c = asks_so c.args.request (Accepted c.in-Accepted.listener) c.in-Accepted.is c.args.self.now c.accepted.new.self c.accepted.result c.accepted.ensures.ok c.accepted.ensures.err

pub returns-in-Accepted-clause-succeeds : goal.returns-in-Accepted-clause-succeeds
returns-in-Accepted-clause-succeeds g c = λ none. absurd (never (sym none ∙ ap makes_more c.in-Accepted.is))

pub shaken-requires-clause-may : goal.shaken-requires-clause-may
shaken-requires-clause-may g c = subst (λ (q : Req). MayAsk (control_of c.args.self.now.past) q) c.in-Shaken.is c.requires.may

pub shaken-requires-clause-lent : goal.shaken-requires-clause-lent
shaken-requires-clause-lent g c = c.requires.lent c.in-Shaken.session.0 (ap asker c.in-Shaken.is)

pub shaken-requires-clause-makes : goal.shaken-requires-clause-makes
shaken-requires-clause-makes g c = subst (λ (q : Req). MakesSo (control_of c.args.self.now.past) q g.H.Holder.may_make) c.in-Shaken.is c.requires.makes

pub returns-in-Shaken-clause-ok : goal.returns-in-Shaken-clause-ok
returns-in-Shaken-clause-ok g c = asks_so c.args.request (Shaken c.in-Shaken.session c.in-Shaken.peer) c.in-Shaken.is c.args.self.now c.shaken.new.self c.shaken.result c.shaken.ensures.ok c.shaken.ensures.err

pub returns-in-Shaken-clause-succeeds : goal.returns-in-Shaken-clause-succeeds
returns-in-Shaken-clause-succeeds g c = λ none. absurd (never (sym none ∙ ap makes_more c.in-Shaken.is))

pub ask_end-requires-clause-may : goal.ask_end-requires-clause-may
ask_end-requires-clause-may g c = subst (λ (q : Req). MayAsk (control_of c.args.self.now.past) q) c.in-AskEnd.is c.requires.may

pub ask_end-requires-clause-mine : goal.ask_end-requires-clause-mine
ask_end-requires-clause-mine g c = c.requires.end c.in-AskEnd.end c.in-AskEnd.reason c.in-AskEnd.is

pub returns-in-AskEnd-clause-ok : goal.returns-in-AskEnd-clause-ok
returns-in-AskEnd-clause-ok g c = subst (λ (q : Req). Asks q IsDone c.args.self.now c.ask_end.new.self) (sym c.in-AskEnd.is) c.ask_end.ensures.ok

pub ask_over-requires-clause-may : goal.ask_over-requires-clause-may
ask_over-requires-clause-may g c = subst (λ (q : Req). MayAsk (control_of c.args.self.now.past) q) c.in-AskOver.is c.requires.may

pub ask_over-requires-clause-lent : goal.ask_over-requires-clause-lent
ask_over-requires-clause-lent g c = c.requires.lent c.in-AskOver.object.0 (ap asker c.in-AskOver.is)

pub returns-in-AskOver-clause-ok : goal.returns-in-AskOver-clause-ok
returns-in-AskOver-clause-ok g c = subst (λ (q : Req). Asks q IsDone c.args.self.now c.ask_over.new.self) (sym c.in-AskOver.is) c.ask_over.ensures.ok

pub output_over-requires-clause-may : goal.output_over-requires-clause-may
output_over-requires-clause-may g c = subst (λ (q : Req). MayAsk (control_of c.args.self.now.past) q) c.in-OutputOver.is c.requires.may

pub output_over-requires-clause-lent : goal.output_over-requires-clause-lent
output_over-requires-clause-lent g c = c.requires.lent c.in-OutputOver.session.0 (ap asker c.in-OutputOver.is)

pub returns-in-OutputOver-clause-ok : goal.returns-in-OutputOver-clause-ok
returns-in-OutputOver-clause-ok g c = subst (λ (q : Req). Asks q IsDone c.args.self.now c.output_over.new.self) (sym c.in-OutputOver.is) c.output_over.ensures.ok

pub unreachable-requires : goal.unreachable-requires
unreachable-requires g c = absurd (subst (λ (q : Req). IsOfWorkers q) c.in-Socket.is c.requires.own)

pub unreachable-requires-in-AskTerm : goal.unreachable-requires-in-AskTerm
unreachable-requires-in-AskTerm g c = absurd (subst (λ (q : Req). IsOfWorkers q) c.in-AskTerm.is c.requires.own)

pub unreachable-requires-in-Bind : goal.unreachable-requires-in-Bind
unreachable-requires-in-Bind g c = absurd (subst (λ (q : Req). IsOfWorkers q) c.in-Bind.is c.requires.own)

pub unreachable-requires-in-Connect : goal.unreachable-requires-in-Connect
unreachable-requires-in-Connect g c = absurd (subst (λ (q : Req). IsOfWorkers q) c.in-Connect.is c.requires.own)

pub unreachable-requires-in-Unbind : goal.unreachable-requires-in-Unbind
unreachable-requires-in-Unbind g c = absurd (subst (λ (q : Req). IsOfWorkers q) c.in-Unbind.is c.requires.own)

pub unreachable-requires-in-Disconnect : goal.unreachable-requires-in-Disconnect
unreachable-requires-in-Disconnect g c = absurd (subst (λ (q : Req). IsOfWorkers q) c.in-Disconnect.is c.requires.own)

pub unreachable-requires-in-Close : goal.unreachable-requires-in-Close
unreachable-requires-in-Close g c = absurd (subst (λ (q : Req). IsOfWorkers q) c.in-Close.is c.requires.own)
