-- A call of the reaper in the one order of a context (own choice, after libzmq's `reaper_t`).
use Rattle.std.specs.Prelude.{◌≡◌, ◌≤◌, ◌==◌, ℕ, Bool, true, false, List, All, length}
use Rattle.std.specs.List.{list_any}
use Rattle.zq_base.specs.declared.ids.EndId.{EndId}
use Rattle.zq_base.specs.declared.ids.SlotId.{SlotId}
use Rattle.spec_control.specs.declared.entry.Did.{Did}
use Rattle.spec_control.specs.declared.entry.Did.TheVariants.{Asked, Delivered, Delimited}
use Rattle.spec_control.specs.declared.entry.Item.{Item}
use Rattle.spec_control.specs.declared.entry.Item.TheVariants.{Event, Seen}
use Rattle.spec_control.specs.Moments.{reaper_slots}
use Rattle.ctl_plane.specs.Past.{control_of}
use Rattle.desk.specs.declared.delivery.Delivery.{Delivery}
use Rattle.plain_desk.specs.Lent.{GrowsBy, IsOneOrder, Lent, MeetsOrNot}
use Rattle.plain_desk.specs.Reaping.{FindsFirst}
use Rattle.plain_desk.specs.Waiting.{HearsAt}
use Rattle.socket_laws.specs.Behind.{is_request}

module _ {N S : Type 0} where
  -- a command that is taken in an event is of one of these mailboxes
  abbrev pub takes_in : List ℕ → Did N S → Bool
  takes_in slots (Asked req reply h) = true
  takes_in slots (Delivered slot letter h) = list_any (λ k. k == slot.0) slots
  takes_in slots (Delimited e h) = true

  abbrev pub takes_from : List ℕ → Item N S → Bool
  takes_from slots (Event entry) = takes_in slots entry.did
  takes_from slots (Seen sight) = true

-- one item of the caller's at the most led from one state of the order to the other, and it was no request; a command that was taken in it was of one of the reaper's mailboxes
pub record IsReapersCall {G N S : Type 0} (old new : Lent G N S) : Type 0 where
  pub before : IsOneOrder old
  pub behind : IsOneOrder new
  pub grows : GrowsBy old new
  pub few : length grows.more ≤ 1
  pub asks_none : All (λ item. is_request item ≡ false) grows.more
  pub of_its : All (λ item. takes_from (reaper_slots (control_of old.past)) item ≡ true) grows.more

-- so is a delivery of the reaper's, of the first of its mailboxes or of any, a delimiter that it met or not, and nothing
pub record ReapersCallsAreSo (G N S : Type 0) : Type 0 where
  pub found : (found : Delivery) (old new : Lent G N S) → IsOneOrder old → IsOneOrder new → FindsFirst found old new → IsReapersCall old new
  pub heard : (slot : SlotId) (old new : Lent G N S) → IsOneOrder old → IsOneOrder new → HearsAt slot old new → IsReapersCall old new
  pub met : (e : EndId) (found : Bool) (old new : Lent G N S) → IsOneOrder old → IsOneOrder new → MeetsOrNot e found old new → IsReapersCall old new
  pub none : (old new : Lent G N S) → IsOneOrder old → IsOneOrder new → new ≡ old → IsReapersCall old new
