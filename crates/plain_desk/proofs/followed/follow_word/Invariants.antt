use Rattle.std.proofs.Common.{◌≡◌, ◌/◌, ℕ, length}
use Rattle.ctl_state.specs.Bits.{bit_in}
use Rattle.plain_desk.specs.Notes.{KeepsNotes}
use Rattle.plain_desk.proofs.followed.follow_word.Given as goal

-- only bits of this word were noted
abbrev pub invariant-each : goal.invariant-each
invariant-each l = record {
  keeps : KeepsNotes l.fn.notes l.notes;
  long : length l.notes.seen.items ≡ length l.fn.notes.seen.items;
  others : (m : ℕ) → (m / 64 ≡ l.word → ⊥) → bit_in l.notes.seen.items m ≡ bit_in l.fn.notes.seen.items m;
}
