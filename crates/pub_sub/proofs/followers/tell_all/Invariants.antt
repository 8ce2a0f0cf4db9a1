use Rattle.std.proofs.Common.{◌≡◌, true, All, take}
use Rattle.msg_pipe.specs.Places.{KeepsPlaces}
use Rattle.pub_sub.specs.Telling.{IsTold}
use Rattle.pub_sub.specs.Followers.{IsTellingAll, StayFollowers}
use Rattle.pub_sub.proofs.followers.tell_all.Given as goal

-- so many peers were told
abbrev pub invariant-loop-follower : goal.invariant-loop-follower
invariant-loop-follower g l = record {
  telling : IsTellingAll g.E.Peers.runs (g.E.Peers.end_at l.fn.peers) (g.E.Peers.writable l.fn.peers) l.wanted l.fn.peers l.peers l.fn.followers l.followers l.follower-index;
  same : StayFollowers l.wanted l.fn.followers l.followers;
  none : l.none ≡ true → All (IsTold l.wanted) (take l.follower-index l.followers);
  keeps : KeepsPlaces g.E.Peers.here g.E.Peers.end_at g.E.Peers.writable l.fn.peers l.peers;
}
