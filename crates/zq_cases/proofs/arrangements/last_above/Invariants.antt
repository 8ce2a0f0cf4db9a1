use Rattle.std.proofs.Common.{◌≤◌, length}
use Rattle.zq_cases.proofs.arrangements.last_above.Given as goal

-- behind the numbers that are left
abbrev pub invariant-places : goal.invariant-places
invariant-places l = l.behind ≤ length l.order

abbrev pub decreases-places : goal.decreases-places
decreases-places l = l.behind
