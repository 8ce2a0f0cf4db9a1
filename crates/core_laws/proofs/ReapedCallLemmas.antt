-- The calls of the reaper are one item at the most.
use Rattle.std.specs.Prelude.{◌≡◌, ◌++◌, ◌∷◌, [], Bool, true, false, refl}
use Rattle.std.proofs.Common.{arith, sym, ap, ◌∙◌}
use Rattle.std.proofs.lemmas.List.{append-nil}
use Rattle.std.proofs.lemmas.List.Elements.{All-cons, All-nil}
use Rattle.zq_base.specs.declared.ids.EndId.{EndId}
use Rattle.zq_base.specs.declared.ids.SlotId.{SlotId}
use Rattle.spec_control.specs.declared.entry.Did.TheVariants.{Delivered, Delimited}
use Rattle.spec_control.specs.declared.entry.Item.{Item}
use Rattle.spec_control.specs.declared.entry.Item.TheVariants.{Event, Seen}
use Rattle.spec_control.specs.Held.{caller_of}
use Rattle.spec_control.specs.Moments.{reaper_slots}
use Rattle.ctl_plane.specs.Past.{Past, control_of}
use Rattle.desk.specs.declared.delivery.Delivery.{Delivery}
use Rattle.desk.specs.declared.delivery.Delivery.TheVariants.{Done, Empty}
use Rattle.plain_desk.specs.Lent.{IsOneOrder, Lent, MeetsOrNot}
use Rattle.plain_desk.specs.Reaping.{FindsFirst}
use Rattle.plain_desk.specs.Waiting.{HearsAt}
use Rattle.plain_desk.proofs.WaitLemmas.{first_hears}
use Rattle.socket_laws.specs.Behind.{is_request}
use Rattle.core_laws.specs.ReapedCall.{IsReapersCall, ReapersCallsAreSo, takes_from}

module _ {G N S : Type 0} (old new : Lent G N S) (before : IsOneOrder old) (behind : IsOneOrder new) where
  one_item : (item : Item N S) → new.caller ≡ old.caller → new.past.workers ≡ old.past.workers → new.items ≡ old.items ++ item ∷ [] → caller_of item ≡ old.caller → is_request item ≡ false → takes_from (reaper_slots (control_of old.past)) item ≡ true → IsReapersCall old new
  one_item item caller workers items by none its = record {
    before = before;
    behind = behind;
    grows = record {
      caller = caller;
      workers = workers;
      more = item ∷ [];
      items = items;
      by = All-cons (λ (x : Item N S). caller_of x ≡ old.caller) item [] by (All-nil (λ (x : Item N S). caller_of x ≡ old.caller));
    };
    few = omega arith;
    asks_none = All-cons (λ (x : Item N S). is_request x ≡ false) item [] none (All-nil (λ (x : Item N S). is_request x ≡ false));
    of_its = All-cons (λ (x : Item N S). takes_from (reaper_slots (control_of old.past)) x ≡ true) item [] its (All-nil (λ (x : Item N S). takes_from (reaper_slots (control_of old.past)) x ≡ true));
  }

  no_item : new ≡ old → IsReapersCall old new
  no_item same = record {
    before = before;
    behind = behind;
    grows = record {
      caller = ap (λ (d : Lent G N S). d.caller) same;
      workers = ap (λ (d : Lent G N S). d.past.workers) same;
      more = [];
      items = ap (λ (d : Lent G N S). d.items) same ∙ sym (append-nil old.items);
      by = All-nil (λ (x : Item N S). caller_of x ≡ old.caller);
    };
    few = omega arith;
    asks_none = All-nil (λ (x : Item N S). is_request x ≡ false);
    of_its = All-nil (λ (x : Item N S). takes_from (reaper_slots (control_of old.past)) x ≡ true);
  }

  heard_call : (slot : SlotId) → HearsAt slot old new → IsReapersCall old new
  heard_call slot at =
      let is = at.hears in
      one_item (Event (record { by = old.caller; did = Delivered slot is.letter is.answered })) is.caller (ap (λ (p : Past G N S). p.workers) is.past) is.items refl refl at.mine

  found_call : (found : Delivery) → FindsFirst found old new → IsReapersCall old new
  found_call Done h = heard_call h.slot (first_hears old new before h)
  found_call Empty h =
      let is = h.sees in
      one_item (Seen h.sight) is.caller (ap (λ (p : Past G N S). p.workers) is.past) is.items is.by refl refl

  met_call : (e : EndId) (found : Bool) → MeetsOrNot e found old new → IsReapersCall old new
  met_call e true m = one_item (Event (record { by = old.caller; did = Delimited e m.answered })) m.caller (ap (λ (p : Past G N S). p.workers) m.past) m.items refl refl refl
  met_call e false m = no_item m.1

pub reapers_calls_are_so : (G N S : Type 0) → ReapersCallsAreSo G N S
reapers_calls_are_so G N S = record {
  found = λ found old new before behind h. found_call old new before behind found h;
  heard = λ slot old new before behind h. heard_call old new before behind slot h;
  met = λ e found old new before behind h. met_call old new before behind e found h;
  none = λ old new before behind same. no_item old new before behind same;
}
