use Rattle.std.proofs.Common.{length}
use Rattle.zq_world.specs.CoreCalls.{IsReaper}
use Rattle.zq_world.specs.Turning.{ActorsAgree}
use Rattle.zq_cases.proofs.drive.steps.Given as goal

-- the actors' sockets agree with what was done, and the reaper alone took letters of closed sockets
abbrev pub invariant-steps : goal.invariant-steps
invariant-steps g l = record {
  agree : ActorsAgree g.W.Sockets.as_open g.W.Sockets.agrees g.W.Sockets.was_made l.way l.actors;
  alone : IsReaper (length l.actors) (g.W.Sockets.pieces l.way);
}
