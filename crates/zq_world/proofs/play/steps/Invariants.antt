use Rattle.std.proofs.Common.{take}
use Rattle.zq_world.specs.Turning.{ActorsAgree, HaveStepped}
use Rattle.zq_world.proofs.play.steps.Given as goal

-- the workers so far have made their steps
abbrev pub invariant-workers : goal.invariant-workers
invariant-workers g l = record {
  have : HaveStepped g.W.Sockets.as_open (take l.worker-index l.order) l.fn.actors l.actors (g.W.Sockets.pieces l.fn.way) (g.W.Sockets.pieces l.way);
  agree : ActorsAgree g.W.Sockets.as_open g.W.Sockets.agrees g.W.Sockets.was_made l.way l.actors;
}
