use Rattle.std.proofs.Common.{◌≡◌, ◌≤◌, ◌<◌, ◌/◌, ℕ, true, length}
use Rattle.ctl_plane.specs.Past.{control_of}
use Rattle.plain_desk.specs.Notes.{IsFollowed, KeepsNotes}
use Rattle.plain_desk.proofs.followed.follow_words.Given as goal

-- the words before this one are those of the mailboxes
abbrev pub invariant-each : goal.invariant-each
invariant-each g l = record {
  keeps : KeepsNotes l.fn.notes l.notes;
  long : length l.notes.seen.items ≡ l.many;
  seen : l.notes.whole ≡ true → (m : ℕ) → l.first ≤ m / 64 → m / 64 < l.word → IsFollowed (control_of l.history) l.notes.seen.items m;
}
