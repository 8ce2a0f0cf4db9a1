-- Where an end is that joins a closed socket (own choice, after libzmq's `socket_base_t`).
use Rattle.std.specs.Prelude.{◌≡◌, ◌≢◌, ℕ, Bool, true, false, List, [], ◌∷◌, Some}
use Rattle.std.specs.List.{list_any}
use Rattle.msg_pipe.specs.Known.{Known}
use Rattle.spec_control.specs.declared.entry.Did.{Did}
use Rattle.spec_control.specs.declared.entry.Did.TheVariants.{Asked, Delivered, Delimited}
use Rattle.spec_control.specs.declared.entry.Item.{Item}
use Rattle.spec_control.specs.declared.entry.Item.TheVariants.{Event, Seen}
use Rattle.spec_control.specs.declared.entry.Joining.{Joining}
use Rattle.spec_control.specs.Control.{id}
use Rattle.spec_control.specs.Names.{name_of}
use Rattle.spec_control.specs.Has.{has_after}
use Rattle.desk.specs.declared.given.Given.{Given}
use Rattle.ctl_moves.specs.Attaching.{binds_end}
use Rattle.ctl_plane.specs.Past.{control_of}
use Rattle.desk.specs.Desk.{came_with}
use Rattle.end_table.specs.declared.changes.PipeChange.{PipeChange}
use Rattle.control_laws.specs.Closed.{lives}
use Rattle.closed_ends.specs.declared.sockets.ClosedSockets.{ClosedSockets}
use Rattle.closed_ends.specs.Has.{is_socket}
use Rattle.core_laws.specs.Goes.{StandsNew}
use Rattle.plain_desk.specs.Lent.{Lent}
use Rattle.core_laws.specs.Ends.{ReaperDid}

module _ {N S : Type 0} where
  -- an event that processes a command with which a bind comes
  abbrev pub binds_in : Did N S → Bool
  binds_in (Asked req reply h) = false
  binds_in (Delivered slot letter h) = binds_end letter.word
  binds_in (Delimited e h) = false

  abbrev pub binds_by : Item N S → Bool
  binds_by (Event entry) = binds_in entry.did
  binds_by (Seen sight) = false

-- what a caller has and lives are closed sockets that the reaper has
abbrev pub HasThem : {G N T O I : Type 0} → Lent G N T → ClosedSockets N O I → Type 0
HasThem d closed = (i : ℕ) → i ≢ 0 → has_after i d.items ≡ Some d.caller → lives (control_of d.past) (id i) ≡ true → list_any (is_socket i) closed.sockets.items ≡ true

-- ---- the law

-- an end that joins by a bind is new, goes by its names, and stands, where what the caller has are closed sockets
abbrev pub BoundEndsStand : {S O I N : Type 0} → Known S O I N → (T : Type 0) → Type 0
BoundEndsStand {S} {O} {I} {N} K T = (old new : Lent (Given N O I) N T) (before behind : S) (from to : ClosedSockets N O I) (changes : List (PipeChange O I × S)) →
    (did : ReaperDid K old new before behind from to changes) → HasThem old from →
    (x : Item N T) → did.call.grows.more ≡ x ∷ [] → binds_by x ≡ true → (j : Joining N) → came_with x ≡ j ∷ [] →
    StandsNew K (control_of old.past) (control_of new.past) (name_of old.items) from to j
