use Rattle.spec_control.specs.Control.{Control}
use Rattle.std.proofs.Common.{subst}
use Rattle.desk.specs.Memory.{NoBindWaits, NoPlugWaits}
use Rattle.plain_desk.proofs.GrowLemmas.{delivered_grow}
use Rattle.plain_desk.proofs.PlaneLemmas.{delivered_caller, delivered_given, delivered_names, delivered_ok, err_moments}
use Rattle.plain_desk.proofs.plane.OneDeskServesDesk.deliver_own.Goals as goal

pub returns-clause-ok : goal.returns-clause-ok
returns-clause-ok g c = delivered_ok c.args.self.now c.deliver_own.new.self c.deliver_own.result c.deliver_own.ensures.err c.args.slot c.deliver_own.ensures.ok

pub returns-clause-err : goal.returns-clause-err
returns-clause-err g c = err_moments c.deliver_own.result c.args.self.now c.deliver_own.new.self c.deliver_own.ensures.err

pub returns-clause-given : goal.returns-clause-given
returns-clause-given g c = delivered_given c.args.self.now c.deliver_own.new.self c.deliver_own.result c.deliver_own.ensures.err c.args.slot c.deliver_own.ensures.ok

pub returns-clause-names : goal.returns-clause-names
returns-clause-names g c = delivered_names c.args.self.now c.deliver_own.new.self c.deliver_own.result c.deliver_own.ensures.err c.args.slot c.deliver_own.ensures.ok

pub returns-clause-keeps : goal.returns-clause-keeps
returns-clause-keeps g c = (delivered_caller c.args.self.now c.deliver_own.new.self c.deliver_own.result c.deliver_own.ensures.err c.args.slot c.deliver_own.ensures.ok, c.deliver_own.ensures.keeps)

pub returns-clause-grows : goal.returns-clause-grows
returns-clause-grows g c = delivered_grow c.args.self.now c.deliver_own.new.self c.args.slot c.deliver_own.result c.deliver_own.ensures.ok c.deliver_own.ensures.err

pub returns-clause-succeeds : goal.returns-clause-succeeds
returns-clause-succeeds g c = λ b is none no_plug. c.deliver_own.ensures.succeeds (subst (λ (x : Control). NoBindWaits x c.args.slot.0) is none) (subst (λ (x : Control). NoPlugWaits x c.args.slot.0) is no_plug)
