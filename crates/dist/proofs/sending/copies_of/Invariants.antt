use Rattle.std.proofs.Common.{◌≡◌, ◌-◌, ◌≤◌, vec_len, All}
use Rattle.std.specs.Prelude.{vec_capacity}
use Rattle.dist.proofs.sending.copies_of.Given as goal

-- the copies so far are copies, and there is room for the others
abbrev pub invariant-copies : goal.invariant-copies
invariant-copies l = record {
  copies : All (λ c. c ≡ l.message) l.copies.items;
  few : vec_len l.copies ≤ l.count;
  room : l.count ≤ vec_capacity l.copies;
}

abbrev pub decreases-copies : goal.decreases-copies
decreases-copies l = l.count - vec_len l.copies
