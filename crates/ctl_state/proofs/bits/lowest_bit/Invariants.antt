use Rattle.std.proofs.Common.{◌≡◌, ◌<◌, ◌*◌, ℕ}
use Rattle.ctl_state.specs.Bits.{bit_in}
use Rattle.ctl_state.proofs.bits.lowest_bit.Given as goal

-- the words before the place have no bit
abbrev pub invariant-each : goal.invariant-each
invariant-each l = (k : ℕ) → k < 64 * l.place → bit_in l.words k ≡ 0
