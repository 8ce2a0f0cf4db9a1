use Rattle.std.proofs.Common.{◌∙◌}
use Rattle.zq_world.specs.Stepping.{lines_of}
use Rattle.zq_world.proofs.NewLemmas.{one_more}
use Rattle.zq_world.proofs.script.parts.Goals as goal

pub actors-preserved : goal.actors-preserved
actors-preserved g c = c.in_ok-push.ensures.items ∙ one_more lines_of c.actors.yielded c.in-Some.actor c.actors.parts.items c.in_ok-into_lines.field-0 c.actors.invariant c.in_ok-into_lines.ensures
