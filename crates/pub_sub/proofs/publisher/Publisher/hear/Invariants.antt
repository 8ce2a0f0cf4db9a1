use Rattle.msg_pipe.specs.Places.{KeepsPlaces}
use Rattle.pub_sub.specs.Hearing.{IsHearing}
use Rattle.pub_sub.proofs.publisher.Publisher.hear.Given as goal

-- so many messages were heard
abbrev pub invariant-rounds : goal.invariant-rounds
invariant-rounds g l = record {
  hearing : IsHearing g.E.Peers.runs (g.E.Peers.end_at l.fn.peers) l.fn.peers l.peers l.fn.self l.self l._count;
  keeps : KeepsPlaces g.E.Peers.here g.E.Peers.end_at g.E.Peers.writable l.fn.peers l.peers;
}
