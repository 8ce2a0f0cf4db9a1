-- What is so of the item of a moment more, behind a call of a desk: what a delivery tells of the pipe that it settles, and which ends of closed sockets it brings.
use Rattle.std.specs.Prelude.{◌≡◌, ◌++◌, ◌∷◌, [], ℕ, List, refl}
use Rattle.std.proofs.Common.{arith, sym, ap, ◌∙◌, subst}
use Rattle.std.proofs.lemmas.List.{append-nil, append_cancel_left}
use Rattle.zq_base.specs.declared.ids.SlotId.{SlotId}
use Rattle.spec_control.specs.declared.entry.Did.{Did}
use Rattle.spec_control.specs.declared.entry.Did.TheVariants.{Delivered}
use Rattle.spec_control.specs.declared.entry.Item.{Item}
use Rattle.spec_control.specs.declared.entry.Item.TheVariants.{Event, Seen}
use Rattle.spec_control.specs.declared.entry.SeenEmpty.{SeenEmpty}
use Rattle.spec_control.specs.declared.entry.SeenEmpty.TheVariants.{Mailbox}
use Rattle.spec_control.specs.declared.entry.Sight.{Sight}
use Rattle.spec_control.specs.Control.{begun}
use Rattle.spec_control.specs.ControlRun.{after_all}
use Rattle.spec_control.specs.Held.{caller_of}
use Rattle.spec_control.specs.Moments.{Moment, moments_by, moments_from}
use Rattle.desk.specs.Bringing.{BringsIn}
use Rattle.desk.specs.declared.given.Given.{Given}
use Rattle.desk.specs.Desk.{LeavesWith, leaves_with}
use Rattle.desk.specs.Holding.{Holding}
use Rattle.desk.specs.Output.{LeavesOnce}
use Rattle.ctl_plane.specs.Hearing.{TakesOldest}
use Rattle.ctl_plane.specs.Past.{Past}
use Rattle.plain_desk.specs.Lent.{Lent, Hears, Sees, SeesNone, moments_of}
use Rattle.plain_desk.specs.Reaping.{HearsFrom}
use Rattle.plain_desk.proofs.OrderLemmas.{own_more}

pub none_more : {X : Type 0} {x : X} → [] ≡ x ∷ [] → ⊥
none_more f = Prim.grind arith

pub same_one : {X : Type 0} {x y : X} → x ∷ [] ≡ y ∷ [] → x ≡ y
same_one f = Prim.grind arith

module _ {G N S : Type 0} (P : Moment N S → Type 0) (old new : Lent G N S) where
  -- nothing happened
  still_so : new ≡ old → (m : Moment N S) → moments_of new ≡ moments_of old ++ m ∷ [] → P m
  still_so same m e =
      absurd (none_more (append_cancel_left (moments_of old) [] (m ∷ []) (append-nil (moments_of old) ∙ sym (ap (λ (d : Lent G N S). moments_of d) same) ∙ e)))

  -- an item of the caller more
  item_so : (item : Item N S) → caller_of item ≡ old.caller → new.items ≡ old.items ++ item ∷ [] → new.past.workers ≡ old.past.workers → new.caller ≡ old.caller → P (record { found = after_all old.items (begun old.past.workers); item = item }) →
      (m : Moment N S) → moments_of new ≡ moments_of old ++ m ∷ [] → P m
  item_so item by items workers caller is m e =
      subst P (same_one (append_cancel_left (moments_of old) (record { found = after_all old.items (begun old.past.workers); item = item } ∷ []) (m ∷ []) (sym grown ∙ e))) is
    where
      grown : moments_of new ≡ moments_of old ++ record { found = after_all old.items (begun old.past.workers); item = item } ∷ []
      grown =
          ap (λ (n : ℕ). moments_by n (moments_from (begun new.past.workers) new.items)) caller
          ∙ ap (λ (n : ℕ). moments_by old.caller (moments_from (begun n) new.items)) workers
          ∙ ap (λ (xs : List (Item N S)). moments_by old.caller (moments_from (begun old.past.workers) xs)) items
          ∙ own_more old.caller old.past.workers old.items item by

module _ {G N S : Type 0} (told : Item N S → Type 0) (old new : Lent G N S) where
  abbrev Tells : Type 0
  Tells = (m : Moment N S) → moments_of new ≡ moments_of old ++ m ∷ [] → told m.item

  -- of an event more
  abbrev TellsOnce : Type 0
  TellsOnce = (did : Did N S) → new.past.events ≡ old.past.events ++ did ∷ [] → told (Event (record { by = old.caller; did = did }))

  pub still_tells : new ≡ old → Tells
  still_tells same = still_so (λ (m : Moment N S). told m.item) old new same

  item_tells : (item : Item N S) → caller_of item ≡ old.caller → new.items ≡ old.items ++ item ∷ [] → new.past.workers ≡ old.past.workers → new.caller ≡ old.caller → told item → Tells
  item_tells item by items workers caller is = item_so (λ (m : Moment N S). told m.item) old new item by items workers caller is

  -- a command was processed
  pub heard_tells : (slot : SlotId) → Hears slot old new → TellsOnce → Tells
  heard_tells slot hears once =
      item_tells (Event (record { by = old.caller; did = Delivered slot hears.letter hears.answered })) refl hears.items (ap (λ (p : Past G N S). p.workers) hears.past) hears.caller
      (once (Delivered slot hears.letter hears.answered) (ap (λ (p : Past G N S). p.events) hears.past))

  -- one of the reaper's
  pub first_tells : (slot : SlotId) → HearsFrom slot old new → TellsOnce → Tells
  first_tells slot hears once =
      item_tells (Event (record { by = old.caller; did = Delivered slot hears.letter hears.answered })) refl hears.items (ap (λ (p : Past G N S). p.workers) hears.past) hears.caller
      (once (Delivered slot hears.letter hears.answered) (ap (λ (p : Past G N S). p.events) hears.past))

  -- the caller looked
  pub look_tells : (empty : SeenEmpty) (sight : Sight) → Sees empty sight old new → told (Seen sight) → Tells
  look_tells empty sight sees is = item_tells (Seen sight) sees.by sees.items (ap (λ (p : Past G N S). p.workers) sees.past) sees.caller is

  -- the mailbox was empty
  pub seen_tells : (slot : SlotId) → SeesNone slot old new → ((sight : Sight) → told (Seen sight)) → Tells
  seen_tells slot none is = look_tells (Mailbox slot) none.sight none.sees (is none.sight)

-- ---- whether a session has output left
module _ {G N S : Type 0} (h : Holding N) (old new : Lent G N S) where
  abbrev Leaves : Moment N S → Type 0
  Leaves m = leaves_with m.found h m.item

  pub still_leaves : new ≡ old → LeavesWith (moments_of old) (moments_of new) h
  still_leaves same = still_so Leaves old new same

  pub heard_leaves : (slot : SlotId) → Hears slot old new → LeavesOnce (after_all old.items (begun old.past.workers)) old.past.events new.past.events h → LeavesWith (moments_of old) (moments_of new) h
  heard_leaves slot hears once =
      item_so Leaves old new (Event (record { by = old.caller; did = Delivered slot hears.letter hears.answered })) refl hears.items (ap (λ (p : Past G N S). p.workers) hears.past) hears.caller
      (once (Delivered slot hears.letter hears.answered) (ap (λ (p : Past G N S). p.events) hears.past))

  pub seen_leaves : (slot : SlotId) → SeesNone slot old new → LeavesWith (moments_of old) (moments_of new) h
  seen_leaves slot none = (let sees = none.sees in item_so Leaves old new (Seen none.sight) sees.by sees.items (ap (λ (p : Past G N S). p.workers) sees.past) sees.caller tt)

-- of the ends of closed sockets an event brings what its command does
pub brings_once : {N O I S : Type 0} (out_name : O → N) (in_name : I → N) (slot : SlotId) (old new : Past (Given N O I) N S) → TakesOldest out_name in_name slot old new
    → (did : Did N S) → new.events ≡ old.events ++ did ∷ [] → BringsIn out_name in_name did old.given new.given
brings_once {N} {O} {I} {S} out_name in_name slot old new took did is =
    subst (λ (d : Did N S). BringsIn out_name in_name d old.given new.given)
    (same_one (append_cancel_left old.events (Delivered slot took.letter took.answered ∷ []) (did ∷ []) (sym (ap (λ (p : Past (Given N O I) N S). p.events) took.step) ∙ is)))
    took.brings
