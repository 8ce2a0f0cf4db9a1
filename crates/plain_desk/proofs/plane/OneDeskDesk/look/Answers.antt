use Rattle.plain_desk.proofs.GrowLemmas.{looked_grow}
use Rattle.plain_desk.proofs.PlaneLemmas.{looked_caller, looked_given, looked_names, looked_waits, looks_or}
use Rattle.plain_desk.proofs.plane.OneDeskDesk.look.Goals as goal

pub returns-clause-found : goal.returns-clause-found
returns-clause-found g c = looks_or _ c.args.empty c.args.self.now c.look_at.new.self c.look_at.result c.look_at.ensures.empty c.look_at.ensures.waits

pub returns-clause-given : goal.returns-clause-given
returns-clause-given g c = looked_given _ c.args.empty c.args.self.now c.look_at.new.self c.look_at.result c.look_at.ensures.empty c.look_at.ensures.waits

pub returns-clause-names : goal.returns-clause-names
returns-clause-names g c = looked_names _ c.args.empty c.args.self.now c.look_at.new.self c.look_at.result c.look_at.ensures.empty c.look_at.ensures.waits

pub returns-clause-number : goal.returns-clause-number
returns-clause-number g c = looked_caller _ c.args.empty c.args.self.now c.look_at.new.self c.look_at.result c.look_at.ensures.empty c.look_at.ensures.waits

pub returns-clause-grows : goal.returns-clause-grows
returns-clause-grows g c = looked_grow c.args.self.now c.look_at.new.self _ c.args.empty c.look_at.result c.look_at.ensures.empty c.look_at.ensures.waits

pub returns-clause-waits : goal.returns-clause-waits
returns-clause-waits g c = λ b is. looked_waits c.args.empty c.args.self.now c.look_at.new.self b is c.look_at.result c.look_at.ensures.waits
