use Rattle.spec_run.specs.JournalText.{ended_text}
use Rattle.zq_journal.proofs.PushLemmas.{pushed_more}
use Rattle.zq_journal.proofs.object.push_all_ended.Goals as goal

pub loop-object-preserved : goal.loop-object-preserved
loop-object-preserved c =
    pushed_more ended_text c.args.ended.now c.loop-object.object-index _ c.args.out.now.items c.loop-object.out.items c.push_ended.new.out.items
    c.loop-object-test.true c.loop-object.invariant c.in_ok-push_ended.ensures
