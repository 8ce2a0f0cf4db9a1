use Rattle.std.proofs.Common.{length, ◌-◌}
use Rattle.zq_world.proofs.FetchLemmas.{IsPassed}
use Rattle.zq_world.proofs.fetching.first_with.Given as goal

-- no seat before the place has such a socket
abbrev pub invariant-seats : goal.invariant-seats
invariant-seats g l = IsPassed g.W.Sockets.as_open l.slot l.place l.seats

abbrev pub decreases-seats : goal.decreases-seats
decreases-seats g l = length l.seats - l.place
