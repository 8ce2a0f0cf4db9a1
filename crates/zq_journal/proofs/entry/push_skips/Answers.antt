use Rattle.spec_run.specs.Text.{skip_text}
use Rattle.zq_journal.proofs.PushLemmas.{pushed_more}
use Rattle.zq_journal.proofs.entry.push_skips.Goals as goal

pub loop-skip-preserved : goal.loop-skip-preserved
loop-skip-preserved c =
    pushed_more skip_text c.args.skips.now c.loop-skip.skip-index _ c.args.out.now.items c.loop-skip.out.items c.push_skip.new.out.items
    c.loop-skip-test.true c.loop-skip.invariant c.in_ok-push_skip.ensures
