use Rattle.std.proofs.Common.{◌≡◌, ◌+◌, ◌≤◌, length, take, vec_len, All}
use Rattle.std.specs.Prelude.{vec_capacity}
use Rattle.msg_pipe.specs.Places.{KeepsPlaces}
use Rattle.dist.specs.Distribution.{Distributes}
use Rattle.dist.proofs.sending.send_to.Given as goal

-- the message was sent to the places so far, and there are copies and room for the others
abbrev pub invariant-places : goal.invariant-places
invariant-places g l = record {
  sent : Distributes g.P.Peers.runs (g.P.Peers.end_at l.fn.peers) l.fn.message l.fn.peers l.peers (take l.place-index l.places) l.put.items l.full.items;
  copies : All (λ c. c ≡ l.fn.message) l.copies.items;
  left : vec_len l.copies + l.place-index ≡ length l.places;
  filled : vec_len l.put + vec_len l.full ≡ l.place-index;
  put_room : length l.places ≤ vec_capacity l.put;
  full_room : length l.places ≤ vec_capacity l.full;
  keeps : KeepsPlaces g.P.Peers.here g.P.Peers.end_at g.P.Peers.writable l.fn.peers l.peers;
}
