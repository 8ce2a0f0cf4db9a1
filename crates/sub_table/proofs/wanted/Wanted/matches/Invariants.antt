use Rattle.std.proofs.Common.{◌≡◌, ◌≤◌, ◌+◌, ◌-◌, false, length, take}
use Rattle.spec_pattern.specs.Wanted.{wants}
use Rattle.sub_table.proofs.MatchLemmas.{any_below}
use Rattle.sub_table.proofs.wanted.Wanted.matches.Given as goal

-- none of the prefixes so far is wanted
abbrev pub invariant-prefixes : goal.invariant-prefixes
invariant-prefixes l = record {
  none : any_below l.from (λ i. wants l.self (take i l.octets)) ≡ false;
  within : l.from ≤ length l.octets + 1;
}

abbrev pub decreases-prefixes : goal.decreases-prefixes
decreases-prefixes l = length l.octets + 1 - l.from
