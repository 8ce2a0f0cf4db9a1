use Rattle.std.proofs.Common.{◌≡◌, take, filter}
use Rattle.pub_sub.proofs.publisher.open_places.Given as goal

-- those of the places so far
abbrev pub invariant-places : goal.invariant-places
invariant-places g l = l.open.items ≡ filter (g.E.Peers.writable l.peers) (take l.place-index l.places)
