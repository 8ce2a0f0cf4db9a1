use Rattle.pub_sub.specs.Followers.{IsNoting}
use Rattle.pub_sub.proofs.followers.note_all.Given as goal

-- so many peers are noted
abbrev pub invariant-loop-follower : goal.invariant-loop-follower
invariant-loop-follower l = IsNoting l.topic l.fn.followers l.followers l.follower-index
