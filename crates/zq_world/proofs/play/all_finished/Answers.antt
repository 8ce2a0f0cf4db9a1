use Rattle.std.proofs.Common.{sym, ◌∙◌}
use Rattle.zq_world.proofs.StepLemmas.{read_here}
use Rattle.zq_world.proofs.RunLemmas.{one_unfinished}
use Rattle.zq_world.proofs.play.all_finished.Goals as goal

pub returns-then-not-is_finished : goal.returns-then-not-is_finished
returns-then-not-is_finished g c as_open =
    sym (one_unfinished as_open c.args.actors.now c.actors.actor-index c.actor-item.result
    (read_here c.args.actors.now c.actors.actor-index c.actor-item.result c.actors-test.true c.actor-item.is) (sym (c.is_finished.ensures as_open) ∙ c.if-not-is_finished.true))
