use Rattle.std.proofs.Common.{◌+◌, ◌-◌, length}
use Rattle.plain_core.specs.Dropped.{CountsAlike}
use Rattle.plain_core.proofs.drops.grow.Given as goal

-- what was counted is counted still
abbrev pub invariant-counts : goal.invariant-counts
invariant-counts l = record {
  alike : CountsAlike l.fn.drops.items l.drops.items;
}

abbrev pub decreases-counts : goal.decreases-counts
decreases-counts l = l.place + 1 - length l.drops.items
