use Rattle.std.proofs.Common.{length, ◌-◌, ◌≤◌}
use Rattle.zq_world.specs.Seats.{shut_before}
use Rattle.zq_world.proofs.seats.next_open.Given as goal

-- none before the place is open
abbrev pub invariant-seats : goal.invariant-seats
invariant-seats g l = l.place ≤ shut_before l.seats

abbrev pub decreases-seats : goal.decreases-seats
decreases-seats g l = length l.seats - l.place
