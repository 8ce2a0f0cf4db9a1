use Rattle.std.proofs.Common.{subst}
use Rattle.control_laws.proofs.ListLemmas.{never}
use Rattle.desk.specs.declared.delivery.Delivery.{Delivery}
use Rattle.plain_desk.specs.Lent.{FindsIn}
use Rattle.plain_desk.proofs.PlaneLemmas.{found_empty, gives_given, hears_from, same_given}
use Rattle.plain_desk.proofs.one_desk.OneDesk.hear_closed.Goals as goal

pub returns-in_err-found-clause-given : goal.returns-in_err-found-clause-given
returns-in_err-found-clause-given g c = same_given c.args.self.now c.deliver.new.self c.in_err-found.ensures.err

pub returns-in-Done-clause-ok : goal.returns-in-Done-clause-ok
returns-in-Done-clause-ok g c = hears_from c.args.slot c.args.self.now c.deliver.new.self (subst (λ (f : Delivery). FindsIn c.args.slot f c.args.self.now c.deliver.new.self) c.in-Done.is c.in_ok-found.ensures.ok)

pub returns-in-Done-clause-given : goal.returns-in-Done-clause-given
returns-in-Done-clause-given g c = gives_given c.args.self.now c.deliver.new.self c.args.slot c.in_ok-found.found c.in_ok-found.ensures.ok

pub unreachable-requires : goal.unreachable-requires
unreachable-requires g c = c.requires.waits (found_empty c.args.slot c.args.self.now c.deliver.new.self (subst (λ (f : Delivery). FindsIn c.args.slot f c.args.self.now c.deliver.new.self) c.in-Empty.is c.in_ok-found.ensures.ok))

pub returns-in_err-found-clause-succeeds : goal.returns-in_err-found-clause-succeeds
returns-in_err-found-clause-succeeds g c = λ none. absurd (never (c.in_err-found.ensures.succeeds none))
