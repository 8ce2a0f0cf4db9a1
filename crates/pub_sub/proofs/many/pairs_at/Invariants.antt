use Rattle.std.proofs.Common.{◌≡◌, ◌≤◌, take, length}
use Rattle.std.specs.Prelude.{vec_capacity}
use Rattle.pub_sub.specs.Many.{pairs_at as pairs_of_places}
use Rattle.pub_sub.proofs.many.pairs_at.Given as goal

-- the pairs so far, and room for the others
abbrev pub invariant-places : goal.invariant-places
invariant-places g l = record {
  pairs_are : l.pairs.items ≡ pairs_of_places (g.E.Peers.end_at l.peers) (take l.place-index l.places);
  room : length l.places ≤ vec_capacity l.pairs;
}
