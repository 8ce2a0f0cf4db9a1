use Rattle.spec_run.specs.JournalText.{actor_lines_text}
use Rattle.zq_journal.proofs.PushLemmas.{pushed_item}
use Rattle.zq_journal.proofs.journal.push_actors.Goals as goal

pub loop-actor-preserved : goal.loop-actor-preserved
loop-actor-preserved c =
    pushed_item actor_lines_text c.args.actors.now c.loop-actor.actor-index c.actor-item.result c.args.out.now.items c.loop-actor.out.items c.push_actor.new.out.items
    c.loop-actor-test.true c.actor-item.is c.loop-actor.invariant c.in_ok-push_actor.ensures
