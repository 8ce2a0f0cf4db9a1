use Rattle.std.specs.Prelude.{refl}
use Rattle.std.proofs.Common.{subst}
use Rattle.spec_control.specs.Control.{Control}
use Rattle.desk.specs.Memory.{NoBindIsFirst}
use Rattle.ctl_plane.specs.Past.{control_of}
use Rattle.plain_desk.proofs.GrowLemmas.{reaped_grow}
use Rattle.plain_desk.proofs.PlaneLemmas.{err_both, reaped_caller, reaped_names, reaped_ok}
use Rattle.plain_desk.proofs.plane.OneDeskDesk.deliver_first.Goals as goal

pub deliver_first-requires-clause-takes : goal.deliver_first-requires-clause-takes
deliver_first-requires-clause-takes g c = c.requires.takes (control_of c.args.self.now.past) refl

pub returns-clause-ok : goal.returns-clause-ok
returns-clause-ok g c = reaped_ok c.args.self.now c.deliver_first.new.self c.deliver_first.result c.deliver_first.ensures.err c.deliver_first.ensures.ok

pub returns-clause-err : goal.returns-clause-err
returns-clause-err g c = err_both c.deliver_first.result c.args.self.now c.deliver_first.new.self c.deliver_first.ensures.err

pub returns-clause-names : goal.returns-clause-names
returns-clause-names g c = reaped_names c.args.self.now c.deliver_first.new.self c.deliver_first.result c.deliver_first.ensures.err c.deliver_first.ensures.ok

pub returns-clause-keeps : goal.returns-clause-keeps
returns-clause-keeps g c = (reaped_caller c.args.self.now c.deliver_first.new.self c.deliver_first.result c.deliver_first.ensures.err c.deliver_first.ensures.ok, c.deliver_first.ensures.keeps)

pub returns-clause-grows : goal.returns-clause-grows
returns-clause-grows g c = reaped_grow c.args.self.now c.deliver_first.new.self c.deliver_first.result c.deliver_first.ensures.ok c.deliver_first.ensures.err

pub returns-clause-succeeds : goal.returns-clause-succeeds
returns-clause-succeeds g c = λ b is none. c.deliver_first.ensures.succeeds (subst (λ (x : Control). NoBindIsFirst x) is none)
