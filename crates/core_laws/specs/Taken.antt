-- Which closed sockets the reaper has, and that it has no others, over the calls of a core (own choice, after libzmq's `reaper_t`).
use Rattle.std.specs.Prelude.{◌≡◌, ◌≢◌, ℕ, Bool, true, false, List, []}
use Rattle.spec_control.specs.declared.entry.Did.{Did}
use Rattle.spec_control.specs.declared.entry.Did.TheVariants.{Asked, Delivered, Delimited}
use Rattle.spec_control.specs.declared.entry.Item.{Item}
use Rattle.spec_control.specs.declared.entry.Item.TheVariants.{Event, Seen}
use Rattle.spec_control.specs.Control.{id}
use Rattle.msg_pipe.specs.Known.{Known}
use Rattle.desk.specs.declared.given.Given.{Given}
use Rattle.desk.specs.Holding.{Holding}
use Rattle.ctl_plane.specs.Past.{control_of}
use Rattle.end_table.specs.declared.changes.PipeChange.{PipeChange}
use Rattle.closed_ends.specs.declared.sockets.ClosedSockets.{ClosedSockets}
use Rattle.closed_ends.specs.Has.{holding_in}
use Rattle.plain_desk.specs.Lent.{GrowsBy, HasSocket, IsOneOrder, Lent}
use Rattle.core_laws.specs.Calls.{AreCallsOn}
use Rattle.core_laws.specs.ReapedCall.{IsReapersCall}
use Rattle.core_laws.specs.ReapedComing.{HasOnlyTaken, HasTaken}
use Rattle.core_laws.specs.Ends.{ReaperDid}
use Rattle.core_laws.specs.Asides.{IsOneItem}

module _ {N S : Type 0} where
  -- no command is taken from a mailbox in an event
  abbrev pub hears_none_in : Did N S → Bool
  hears_none_in (Asked req reply h) = true
  hears_none_in (Delivered slot letter h) = false
  hears_none_in (Delimited e h) = true

  abbrev pub hears_none : Item N S → Bool
  hears_none (Event entry) = hears_none_in entry.did
  hears_none (Seen sight) = true

-- each closed socket that was taken over and lives is had still
pub record KeepsTaken (G N T : Type 0) : Type 0 where
  -- before the first item there is none
  pub first : (d : Lent G N T) → IsOneOrder d → d.items ≡ [] → (h : Holding N) → HasTaken (control_of d.past) h
  -- over an item with which no command is taken from a mailbox
  pub aside : (old new : Lent G N T) (item : Item N T) → IsOneItem old new item → hears_none item ≡ true → (h : Holding N) → HasTaken (control_of old.past) h → HasTaken (control_of new.past) h
  -- over calls of an open socket, its close among them
  pub calls : (o : ℕ) (old new : Lent G N T) → AreCallsOn o old new → HasSocket old (id o) → (h : Holding N) → HasTaken (control_of old.past) h → HasTaken (control_of new.past) h

-- what a caller has are closed sockets that were taken over
pub record KeepsOnlyTaken (G N T : Type 0) : Type 0 where
  -- before the first item it has none
  pub first : (d : Lent G N T) → d.items ≡ [] → (k : ℕ) → HasOnlyTaken k d
  -- over whatever another did
  pub others : (old new : Lent G N T) → IsOneOrder old → IsOneOrder new → GrowsBy old new → (k : ℕ) → k ≢ old.caller → HasOnlyTaken k old → HasOnlyTaken k new
  -- and over its own calls as the reaper
  pub reaper : (old new : Lent G N T) → IsReapersCall old new → HasOnlyTaken old.caller old → HasOnlyTaken old.caller new

-- over a call of the reaper
abbrev pub ReaperKeepsTaken : {S O I N : Type 0} → Known S O I N → (T : Type 0) → Type 0
ReaperKeepsTaken {S} {O} {I} {N} K T = (old new : Lent (Given N O I) N T) (before behind : S) (from to : ClosedSockets N O I) (changes : List (PipeChange O I × S)) →
    ReaperDid K old new before behind from to changes → HasTaken (control_of old.past) (holding_in K.out_name K.in_name from) → HasTaken (control_of new.past) (holding_in K.out_name K.in_name to)
