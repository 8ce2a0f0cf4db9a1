use Rattle.std.proofs.Common.{◌≡◌, ◌++◌, take}
use Rattle.std.specs.Prelude.{flat_map}
use Rattle.spec_run.specs.JournalText.{pipe_slot_text}
use Rattle.zq_journal.proofs.row.push_rows.Given as goal

abbrev pub invariant-loop-slot : goal.invariant-loop-slot
invariant-loop-slot l = l.out.items ≡ l.fn.out.items ++ flat_map pipe_slot_text (take l.slot-index l.rows)
