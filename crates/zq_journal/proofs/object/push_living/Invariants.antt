use Rattle.std.proofs.Common.{◌≡◌, ◌++◌, drop}
use Rattle.spec_run.specs.JournalText.{living_text}
use Rattle.zq_journal.proofs.object.push_living.Given as goal

-- the objects so far are shown, and counted
abbrev pub invariant-loop-object : goal.invariant-loop-object
invariant-loop-object l = record {
  shown : l.out.items ++ living_text l.object-index (drop l.object-index l.objects) ≡ l.fn.out.items ++ living_text 0 l.objects;
  number : l.number ≡ l.object-index;
}
