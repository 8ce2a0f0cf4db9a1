use Rattle.std.proofs.Common.{◌≡◌, None, replicate, take}
use Rattle.plain_core.specs.Settled.{noted_all}
use Rattle.plain_core.proofs.table.table_of.Given as goal

-- those so far are noted
abbrev pub invariant-notes : goal.invariant-notes
invariant-notes l = record {
  so_far : l.table.items ≡ noted_all (take l.counts-index l.notes) (replicate l.ends None);
}
