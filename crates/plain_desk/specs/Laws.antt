-- How the one order grows, and that only its events change anything (own choice).
use Rattle.std.specs.Prelude.{◌≡◌, ◌≢◌, ◌++◌, ℕ, List, [], ◌∷◌, map}
use Rattle.spec_control.specs.declared.entry.Did.{Did}
use Rattle.spec_control.specs.declared.entry.Item.{Item}
use Rattle.spec_control.specs.declared.entry.Item.TheVariants.{Event as IsEvent, Seen as IsSeen}
use Rattle.spec_control.specs.declared.entry.Sight.{Sight}
use Rattle.spec_control.specs.Control.{Control, begun}
use Rattle.spec_control.specs.Held.{caller_of}
use Rattle.spec_control.specs.Moments.{moments_by, moments_from}
use Rattle.spec_control.specs.ControlRun.{after_all, Fits, IsControlRun}
use Rattle.spec_control.specs.Names.{AreNamed, FitsNames}
use Rattle.plain_desk.specs.declared.mark.Mark.{Mark}
use Rattle.plain_desk.specs.declared.mark.Mark.TheVariants.{Event, Seen}
use Rattle.plain_desk.specs.Order.{order_of, AreMarked, FitsOrder, IsOrder}

abbrev pub EventMore : (N S : Type 0) → Type 0
EventMore N S = (ms : List Mark) (dids : List (Did N S)) (by : ℕ) (did : Did N S) → AreMarked ms dids →
    order_of (ms ++ Event by ∷ []) (dids ++ did ∷ []) ≡ order_of ms dids ++ IsEvent (record { by = by; did = did }) ∷ []

abbrev pub LookMore : (N S : Type 0) → Type 0
LookMore N S = (ms : List Mark) (dids : List (Did N S)) (sight : Sight) → AreMarked ms dids →
    order_of (ms ++ Seen sight ∷ []) dids ≡ order_of ms dids ++ IsSeen sight ∷ []

abbrev pub LooksChangeNothing : (N S : Type 0) → Type 0
LooksChangeNothing N S = (ms : List Mark) (dids : List (Did N S)) (c : Control) → AreMarked ms dids →
    after_all (order_of ms dids) c ≡ after_all (map (λ did. let x : Item N S = IsEvent (record { by = 0; did = did }) in x) dids) c

abbrev pub OrderGoesOn : (N S : Type 0) → Type 0
OrderGoesOn N S = (workers : ℕ) (items : List (Item N S)) (item : Item N S) → IsOrder workers items → FitsOrder workers items item → IsOrder workers (items ++ item ∷ [])

-- a moment more of the caller of an item, with the control plane as the item found it
abbrev pub MomentMore : (N S : Type 0) → Type 0
MomentMore N S = (k workers : ℕ) (items : List (Item N S)) (item : Item N S) → caller_of item ≡ k →
    moments_by k (moments_from (begun workers) (items ++ item ∷ [])) ≡ moments_by k (moments_from (begun workers) items) ++ record { found = after_all items (begun workers); item = item } ∷ []

-- and none of another caller
abbrev pub OtherMoments : (N S : Type 0) → Type 0
OtherMoments N S = (k workers : ℕ) (items : List (Item N S)) (item : Item N S) → caller_of item ≢ k →
    moments_by k (moments_from (begun workers) (items ++ item ∷ [])) ≡ moments_by k (moments_from (begun workers) items)

-- an event that the events so far allow, whoever caused those, fits the order that they have with their callers and with the looks
abbrev pub EventFits : (N S : Type 0) → Type 0
EventFits N S = (workers : ℕ) (ms : List Mark) (dids : List (Did N S)) (did : Did N S) → AreMarked ms dids →
    IsControlRun (begun workers) (map (λ d. let x : Item N S = IsEvent (record { by = 0; did = d }) in x) (dids ++ did ∷ [])) → Fits (after_all (order_of ms dids) (begun workers)) did

-- so do the names of pipes that it tells
abbrev pub NamesFit : (N S : Type 0) → Type 0
NamesFit N S = (ms : List Mark) (dids : List (Did N S)) (by : ℕ) (did : Did N S) → AreMarked ms dids →
    AreNamed [] (map (λ d. let x : Item N S = IsEvent (record { by = 0; did = d }) in x) (dids ++ did ∷ [])) → FitsNames (order_of ms dids) (IsEvent (record { by = by; did = did }))
