use Rattle.std.proofs.Common.{◌≡◌, ◌++◌, take}
use Rattle.std.specs.Prelude.{flat_map}
use Rattle.spec_run.specs.JournalText.{entry_text}
use Rattle.zq_journal.proofs.entry.push_actor.Given as goal

abbrev pub invariant-loop-entry : goal.invariant-loop-entry
invariant-loop-entry l =
    l.out.items ≡ l.fn.out.items ++ flat_map (entry_text l.actor.name) (take l.entry-index l.entry-items)
