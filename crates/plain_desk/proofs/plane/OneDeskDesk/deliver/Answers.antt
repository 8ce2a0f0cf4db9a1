use Rattle.std.proofs.Common.{subst}
use Rattle.spec_control.specs.Control.{Control}
use Rattle.desk.specs.Memory.{NoBindWaits}
use Rattle.plain_desk.proofs.GrowLemmas.{delivered_grow}
use Rattle.plain_desk.proofs.PlaneLemmas.{delivered_caller, delivered_given, delivered_names, delivered_ok, err_moments, mine_is}
use Rattle.plain_desk.proofs.plane.OneDeskDesk.deliver.Goals as goal

pub deliver-requires-clause-mine : goal.deliver-requires-clause-mine
deliver-requires-clause-mine g c = mine_is c.args.slot.0 c.args.self.now (g.H.Holder.holding c.args.holder.now) c.is_of_one_order.ensures c.requires.has c.requires.mine

pub returns-clause-ok : goal.returns-clause-ok
returns-clause-ok g c = delivered_ok c.args.self.now c.deliver.new.self c.deliver.result c.deliver.ensures.err c.args.slot c.deliver.ensures.ok

pub returns-clause-err : goal.returns-clause-err
returns-clause-err g c = err_moments c.deliver.result c.args.self.now c.deliver.new.self c.deliver.ensures.err

pub returns-clause-given : goal.returns-clause-given
returns-clause-given g c = delivered_given c.args.self.now c.deliver.new.self c.deliver.result c.deliver.ensures.err c.args.slot c.deliver.ensures.ok

pub returns-clause-names : goal.returns-clause-names
returns-clause-names g c = delivered_names c.args.self.now c.deliver.new.self c.deliver.result c.deliver.ensures.err c.args.slot c.deliver.ensures.ok

pub returns-clause-keeps : goal.returns-clause-keeps
returns-clause-keeps g c = (delivered_caller c.args.self.now c.deliver.new.self c.deliver.result c.deliver.ensures.err c.args.slot c.deliver.ensures.ok, c.deliver.ensures.keeps)

pub returns-clause-grows : goal.returns-clause-grows
returns-clause-grows g c = delivered_grow c.args.self.now c.deliver.new.self c.args.slot c.deliver.result c.deliver.ensures.ok c.deliver.ensures.err

pub returns-clause-succeeds : goal.returns-clause-succeeds
returns-clause-succeeds g c = λ b is none. c.deliver.ensures.succeeds (subst (λ (x : Control). NoBindWaits x c.args.slot.0) is none)
