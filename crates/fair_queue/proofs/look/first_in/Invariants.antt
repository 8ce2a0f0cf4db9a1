use Rattle.std.proofs.Common.{take}
use Rattle.fair_queue.specs.Looks.{GivesNothing}
use Rattle.fair_queue.proofs.look.first_in.Given as goal
use Rattle.msg_pipe.specs.Places.{KeepsPlaces}

-- the places so far gave nothing
abbrev pub invariant-looks : goal.invariant-looks
invariant-looks g l = record {
  looks : GivesNothing g.E.Peers.runs (g.E.Peers.end_at l.fn.peers) (take l.i l.places) l.fn.peers l.peers;
  keeps : KeepsPlaces g.E.Peers.here g.E.Peers.end_at g.E.Peers.writable l.fn.peers l.peers;
}
