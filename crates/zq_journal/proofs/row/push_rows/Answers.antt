use Rattle.spec_run.specs.JournalText.{pipe_slot_text}
use Rattle.zq_journal.proofs.PushLemmas.{pushed_more}
use Rattle.zq_journal.proofs.row.push_rows.Goals as goal

pub loop-slot-preserved : goal.loop-slot-preserved
loop-slot-preserved c =
    pushed_more pipe_slot_text c.args.rows.now c.loop-slot.slot-index _ c.args.out.now.items c.loop-slot.out.items c.push_slot.new.out.items
    c.loop-slot-test.true c.loop-slot.invariant c.in_ok-push_slot.ensures
