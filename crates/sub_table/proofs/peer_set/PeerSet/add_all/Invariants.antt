use Rattle.std.proofs.Common.{◌≡◌, ℕ, ◌||◌, map}
use Rattle.std.specs.Map.Iter.{deref}
use Rattle.sub_table.specs.View.{is_peer}
use Rattle.sub_table.proofs.peer_set.PeerSet.add_all.Given as goal

-- the peers so far were added
abbrev pub invariant-peers : goal.invariant-peers
invariant-peers l = (q : ℕ) → is_peer l.self q ≡ (is_peer l.fn.self q || is_peer (map deref l.yielded) q)
