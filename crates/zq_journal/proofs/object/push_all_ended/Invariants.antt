use Rattle.std.proofs.Common.{◌≡◌, ◌++◌, take}
use Rattle.std.specs.Prelude.{flat_map}
use Rattle.spec_run.specs.JournalText.{ended_text}
use Rattle.zq_journal.proofs.object.push_all_ended.Given as goal

abbrev pub invariant-loop-object : goal.invariant-loop-object
invariant-loop-object l = l.out.items ≡ l.fn.out.items ++ flat_map ended_text (take l.object-index l.ended)
