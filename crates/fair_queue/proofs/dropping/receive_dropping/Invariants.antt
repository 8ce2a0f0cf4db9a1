use Rattle.std.proofs.Common.{◌≡◌, IsPermutation}
use Rattle.msg_pipe.specs.Places.{KeepsPlaces}
use Rattle.spec_pattern.specs.Dropping.{receiving, DropsMore}
use Rattle.fair_queue.proofs.dropping.receive_dropping.Given as goal

-- so many messages were dropped, and the sieve is as it was
abbrev pub invariant-looks : goal.invariant-looks
invariant-looks g l = record {
  drops : DropsMore g.E.Peers.runs (g.E.Peers.end_at l.fn.peers) (g.S.Sieve.gives l.fn.sieve) l.rule l._count
      (receiving l.fn.peers l.fn.turns l.fn.skips.items) (receiving l.peers l.turns l.skips.items);
  kept : l.sieve ≡ l.fn.sieve;
  places : IsPermutation l.fn.turns l.turns;
  keeps : KeepsPlaces g.E.Peers.here g.E.Peers.end_at g.E.Peers.writable l.fn.peers l.peers;
}
