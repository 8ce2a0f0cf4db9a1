use Rattle.msg_pipe.specs.Places.{KeepsPlaces}
use Rattle.pub_sub.specs.Telling.{weight, IsTelling, StaysFollower}
use Rattle.pub_sub.proofs.follower.Follower.tell_open.Given as goal

-- the peer was told some of what differs
abbrev pub invariant-changes : goal.invariant-changes
invariant-changes g l = record {
  telling : IsTelling g.E.Peers.runs (g.E.Peers.end_at l.fn.peers) l.fn.peers l.peers l.wanted l.fn.self.place l.fn.self.told.told l.self.told.told;
  same : StaysFollower l.wanted l.fn.self l.self;
  keeps : KeepsPlaces g.E.Peers.here g.E.Peers.end_at g.E.Peers.writable l.fn.peers l.peers;
}

abbrev pub decreases-changes : goal.decreases-changes
decreases-changes g l = weight l.wanted l.self.told.told
