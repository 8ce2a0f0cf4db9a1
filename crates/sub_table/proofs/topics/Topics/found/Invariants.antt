use Rattle.std.proofs.Common.{◌≡◌, ◌≤◌, ◌+◌, ◌-◌, ℕ, length, take, nat_eq}
use Rattle.spec_pattern.specs.Topics.{has_topic}
use Rattle.sub_table.specs.View.{is_peer}
use Rattle.sub_table.proofs.MatchLemmas.{any_below}
use Rattle.sub_table.proofs.topics.Topics.found.Given as goal

-- the peers of the prefixes so far were found
abbrev pub invariant-prefixes : goal.invariant-prefixes
invariant-prefixes l = record {
  found : (q : ℕ) → is_peer l.found q ≡ any_below l.from (λ i. has_topic nat_eq l.self q (take i l.octets));
  within : l.from ≤ length l.octets + 1;
}

abbrev pub decreases-prefixes : goal.decreases-prefixes
decreases-prefixes l = length l.octets + 1 - l.from
