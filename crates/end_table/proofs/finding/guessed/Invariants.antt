use Rattle.std.proofs.Common.{◌≤◌, ◌-◌, length}
use Rattle.end_table.proofs.finding.guessed.Given as goal

-- both bounds are places, or the one behind the last
abbrev pub invariant-each : goal.invariant-each
invariant-each g l = (l.low ≤ l.high) × (l.high ≤ length l.places)

abbrev pub decreases-each : goal.decreases-each
decreases-each g l = l.high - l.low
