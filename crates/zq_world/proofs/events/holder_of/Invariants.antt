use Rattle.std.proofs.Common.{length, ◌-◌}
use Rattle.zq_world.proofs.EventLemmas.{IsPassedBy}
use Rattle.zq_world.proofs.events.holder_of.Given as goal

-- no actor so far has such a socket
abbrev pub invariant-actors : goal.invariant-actors
invariant-actors g l = IsPassedBy g.W.Sockets.as_open l.slot l.number l.actors

abbrev pub decreases-actors : goal.decreases-actors
decreases-actors g l = length l.actors - l.number
