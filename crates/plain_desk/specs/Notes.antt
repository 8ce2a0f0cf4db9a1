-- For which closed sockets a command waited when the mailboxes were last looked at (own choice).
use Rattle.std.specs.Prelude.{◌≡◌, ◌<◌, ◌≤◌, ◌+◌, ◌/◌, ℕ, true, List, Option, Some, None, length, slice_index_or}
use Rattle.zq_base.specs.declared.ids.ObjId.{ObjId}
use Rattle.spec_control.specs.Control.{Control}
use Rattle.ctl_state.specs.Bits.{bit_in, some_bit}
use Rattle.plain_desk.specs.declared.notes.Notes.{Notes}

-- the object at a place
abbrev pub object_at : List ObjId → ℕ → ℕ
object_at os k = (slice_index_or os k (record { 0 = 0 })).0

-- the place that is noted of a mailbox
abbrev pub place_of : List (Option ℕ) → ℕ → Option ℕ
place_of places m = slice_index_or places m None

-- each closed socket has its place noted at its mailbox, which stands so many behind its number and in no word before the first, and no other mailbox has one; the bit of a place is that of its mailbox, and no other place's is set
pub record AreNoted (workers first : ℕ) (os : List ObjId) (places : List (Option ℕ)) (seen waits : List ℕ) : Type 0 where
  pub some : (k : ℕ) → k < length os → 0 < object_at os k
  pub placed : (k : ℕ) → k < length os → place_of places (workers + object_at os k) ≡ Some k
  pub within : (m k : ℕ) → place_of places m ≡ Some k → k < length os
  pub named : (m k : ℕ) → place_of places m ≡ Some k → workers + object_at os k ≡ m
  pub first_there : (m k : ℕ) → place_of places m ≡ Some k → first ≤ m / 64
  pub seen_there : (m k : ℕ) → place_of places m ≡ Some k → m / 64 < length seen
  pub alike : (m k : ℕ) → place_of places m ≡ Some k → bit_in waits k ≡ bit_in seen m
  pub past : (k : ℕ) → length os ≤ k → bit_in waits k ≡ 0

-- where all are noted these are
abbrev pub Noted : List ObjId → Notes → Type 0
Noted os n = n.whole ≡ true → AreNoted n.workers n.first os n.places.items n.seen.items n.waits.items

-- the same closed sockets are noted, or not all
pub record KeepsNotes (old new : Notes) : Type 0 where
  pub workers : new.workers ≡ old.workers
  pub whole : new.whole ≡ true → old.whole ≡ true
  pub noted : (os : List ObjId) → Noted os old → Noted os new

-- a socket may be noted at a place
pub record MayNote (socket : ObjId) (place : ℕ) (n : Notes) : Type 0 where
  pub some : 0 < socket.0
  pub here : n.workers + socket.0 < length n.places.items
  pub free : place_of n.places.items (n.workers + socket.0) ≡ None
  pub seen : (n.workers + socket.0) / 64 < length n.seen.items
  pub waits : place / 64 < length n.waits.items

-- the bit of a mailbox is set where a command waits there
abbrev pub IsFollowed : Control → List ℕ → ℕ → Type 0
IsFollowed c seen m = bit_in seen m ≡ some_bit (c.boxes m)

-- so are those of the closed sockets' mailboxes
abbrev pub AreFollowed : Control → List ObjId → (workers : ℕ) → List ℕ → Type 0
AreFollowed c os workers seen = (k : ℕ) → k < length os → IsFollowed c seen (workers + object_at os k)
