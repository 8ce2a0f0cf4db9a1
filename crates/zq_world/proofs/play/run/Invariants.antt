use Rattle.std.proofs.Common.{◌≡◌, ◌+◌, List, ℕ, length}
use Rattle.spec_run.specs.InTurns.{OneTurn}
use Rattle.zq_world.specs.Turning.{ActorsAgree, HasCome}
use Rattle.zq_world.proofs.RunLemmas.{HasRead}
use Rattle.zq_world.proofs.play.run.Given as goal

-- the turns so far, and those that are left
abbrev pub invariant-turns : goal.invariant-turns
invariant-turns g l = record {
  come : (ts : List (OneTurn g.row.P-Name.Denot g.row.P-Story.Denot)) × (os : List (List ℕ))
      × HasCome g.W.Sockets.as_open l.fn.seed l.order.drawn ts os l.fn.actors l.actors (g.W.Sockets.pieces l.fn.way) (g.W.Sockets.pieces l.way) × (length ts + l.left ≡ l.fn.turns)
      × HasRead ts (g.C.Clock.at l.fn.clock) (g.C.Clock.at l.clock);
  seed : l.order.seed ≡ l.fn.seed;
  conductor : l.conductor ≡ length l.fn.actors + 2;
  agree : ActorsAgree g.W.Sockets.as_open g.W.Sockets.agrees g.W.Sockets.was_made l.way l.actors;
}

abbrev pub decreases-turns : goal.decreases-turns
decreases-turns g l = l.left
