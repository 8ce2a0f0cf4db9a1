use Rattle.std.proofs.Common.{◌≤◌, ◌-◌}
use Rattle.std.specs.VecDeque.{deque_len}
use Rattle.closed_ends.proofs.sockets.guessed.Given as goal

-- both bounds are places, or the one behind the last
abbrev pub invariant-each : goal.invariant-each
invariant-each g l = (l.low ≤ l.high) × (l.high ≤ deque_len l.ends)

abbrev pub decreases-each : goal.decreases-each
decreases-each g l = l.high - l.low
