use Rattle.std.proofs.Common.{◌≡◌, ◌<◌, ◌+◌, ℕ, true}
use Rattle.ctl_plane.specs.Past.{control_of}
use Rattle.plain_desk.specs.Notes.{object_at, IsFollowed, KeepsNotes}
use Rattle.plain_desk.proofs.followed.follow_each.Given as goal

-- the mailboxes of those so far are followed
abbrev pub invariant-each : goal.invariant-each
invariant-each g l = record {
  keeps : KeepsNotes l.fn.notes l.notes;
  seen : l.notes.whole ≡ true → (k : ℕ) → k < l.place → IsFollowed (control_of l.history) l.notes.seen.items (l.fn.notes.workers + object_at l.closed k);
}
