use Rattle.std.proofs.Common.{◌≡◌, take, filter}
use Rattle.pub_sub.specs.Followers.{places_of}
use Rattle.pub_sub.proofs.subscriptions.open_followers.Given as goal

-- the places of those so far that can be written
abbrev pub invariant-loop-follower : goal.invariant-loop-follower
invariant-loop-follower g l = l.open.items ≡ filter (g.E.Peers.writable l.peers) (places_of (take l.follower-index l.followers))
