use Rattle.std.proofs.Common.{◌≡◌, ◌<◌, ◌≤◌, ℕ, length}
use Rattle.ctl_state.specs.Bits.{bit_in}
use Rattle.ctl_state.proofs.bits.clear_bits.Given as goal

-- the bits up to the place are clear
abbrev pub invariant-each : goal.invariant-each
invariant-each l = record {
  within : l.place ≤ l.to;
  from : l.from ≤ l.place;
  long : length l.words.items ≡ length l.fn.words.items;
  before : (k : ℕ) → k < l.from → bit_in l.words.items k ≡ bit_in l.fn.words.items k;
  clear : (k : ℕ) → l.from ≤ k → k < l.place → bit_in l.words.items k ≡ 0;
  behind : (k : ℕ) → l.place ≤ k → bit_in l.words.items k ≡ bit_in l.fn.words.items k;
}
