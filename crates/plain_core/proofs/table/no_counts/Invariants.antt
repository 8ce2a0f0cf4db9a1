use Rattle.std.proofs.Common.{◌≡◌, None, replicate}
use Rattle.plain_core.proofs.table.no_counts.Given as goal

-- so many
abbrev pub invariant-ends : goal.invariant-ends
invariant-ends l = record {
  so_far : l.table.items ≡ replicate l._place None;
}
