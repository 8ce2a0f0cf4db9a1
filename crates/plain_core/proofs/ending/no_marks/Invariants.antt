use Rattle.std.proofs.Common.{◌≡◌, false, replicate}
use Rattle.plain_core.proofs.ending.no_marks.Given as goal

-- so many
abbrev pub invariant-objects : goal.invariant-objects
invariant-objects l = record {
  so_far : l.marks.items ≡ replicate l._place false;
}
