-- One of the reaper's mailboxes, in which a command waits.
use Rattle.std.specs.Prelude.{◌≡◌, ◌≢◌, ◌==◌, ◌||◌, ◌∷◌, [], ℕ, Bool, true, false, not, List, None, Some, cond, filter, map, slice_index_or, refl}
use Rattle.std.specs.List.{list_any}
use Rattle.std.proofs.Common.{arith, sym, ap, ◌∙◌, subst}
use Rattle.std.proofs.lemmas.Bool.{eq-eqb, eqb-true, ne_eqb}
use Rattle.std.proofs.lemmas.List.Elements.{All-head, All-tail}
use Rattle.std.proofs.lemmas.List.Folds.{list_any_at}
use Rattle.zq_base.specs.declared.ids.ObjId.{ObjId}
use Rattle.zq_base.specs.declared.ids.SlotId.{SlotId}
use Rattle.spec_control.specs.Stage.{is_used}
use Rattle.spec_control.specs.Row.{is_socket}
use Rattle.spec_control.specs.Rows.{is_owner, obj}
use Rattle.spec_control.specs.Control.{Control, begun, id}
use Rattle.spec_control.specs.Has.{has_after}
use Rattle.spec_control.specs.Moments.{first_waiting, items_in, left_after, reaper_slots}
use Rattle.spec_control.specs.OwnAsks.{is_none}
use Rattle.control_laws.proofs.ListLemmas.{never}
use Rattle.control_laws.specs.Kept.{Kept}
use Rattle.control_laws.proofs.RootLemmas.{begun_kept}
use Rattle.control_laws.proofs.RunLemmas.{run_kept}
use Rattle.ctl_plane.specs.Past.{control_of}
use Rattle.control_laws.proofs.MomentLemmas.{own_moments}
use Rattle.control_laws.specs.Closed.{lives}
use Rattle.control_laws.proofs.ReapLemmas.{found_stands}
use Rattle.control_laws.proofs.SlotLemmas.{slot_left}
use Rattle.plain_desk.specs.Lent.{AreSockets, IsOneOrder, Lent, moments_of}
use Rattle.plain_desk.specs.Reaping.{HearsFirst, IsOfClosed, WaitsFirst, is_taken}
use Rattle.plain_desk.specs.Waiting.{HearsAt, WaitsAt}
use Rattle.plain_desk.proofs.FirstLemmas.{both, either, full_letter, socket_above, socket_lives}

none_some : {X : Type 0} {x : X} → None ≡ Some x → ⊥
none_some e = Prim.grind arith

-- the first of them that is not empty is one of them
pub first_mine : (c : Control) (slot : ℕ) → first_waiting c ≡ Some slot → list_any (λ k. k == slot) (reaper_slots c) ≡ true
first_mine c slot is =
    (found_stands (λ k. not (is_none (c.boxes k))) (reaper_slots c) slot is).1 (λ x. list_any (λ k. k == x) (reaper_slots c) ≡ true)
    (λ k d within. list_any_at (λ y. y == slice_index_or (reaper_slots c) k d) (reaper_slots c) k d within (eq-eqb (slice_index_or (reaper_slots c) k d) _ refl))

module _ {G N S : Type 0} where
  pub first_waits : (slot : SlotId) (d : Lent G N S) → WaitsFirst slot d → WaitsAt slot d
  first_waits slot d first = record { mine = first_mine (control_of d.past) slot.0 first.here; some = first.some }

  abbrev pub first_hears : (old new : Lent G N S) → IsOneOrder old → (h : HearsFirst old new) → HearsAt h.slot old new
  first_hears old new order h = record { mine = first_mine (control_of old.past) h.slot.0 (ap first_waiting order.control ∙ h.first); hears = h.hears }

-- ---- a closed socket that was taken over, with this mailbox
pub record TakenAt (c : Control) (slot : ℕ) : Type 0 where
  pub object : ObjId
  pub socket : is_socket (obj c.rows object.0).kind ≡ true
  pub used : is_used (obj c.rows object.0).request ≡ true
  pub at : (obj c.rows object.0).slot ≡ slot

among_closed : (c : Control) (slot : ℕ) (os : List ObjId) → AreSockets c os → list_any (λ k. k == slot) (map (λ o. (obj c.rows o.0).slot) (filter (λ o. is_used (obj c.rows o.0).request) os)) ≡ true → TakenAt c slot
among_closed c slot [] all h = absurd (never h)
among_closed c slot (o ∷ os) all h = by (is_used (obj c.rows o.0).request) refl h (among_closed c slot os (All-tail (λ (x : ObjId). is_socket (obj c.rows x.0).kind ≡ true) o os all))
  where
    here_or : (b : Bool) → is_used (obj c.rows o.0).request ≡ true → ((obj c.rows o.0).slot == slot) ≡ b → (b || list_any (λ k. k == slot) (map (λ x. (obj c.rows x.0).slot) (filter (λ x. is_used (obj c.rows x.0).request) os))) ≡ true → (list_any (λ k. k == slot) (map (λ x. (obj c.rows x.0).slot) (filter (λ x. is_used (obj c.rows x.0).request) os)) ≡ true → TakenAt c slot) → TakenAt c slot
    here_or true used e f later = record { object = o; socket = All-head (λ (x : ObjId). is_socket (obj c.rows x.0).kind ≡ true) o os all; used = used; at = eqb-true (obj c.rows o.0).slot slot e }
    here_or false used e f later = later f

    by : (b : Bool) → is_used (obj c.rows o.0).request ≡ b → list_any (λ k. k == slot) (map (λ x. (obj c.rows x.0).slot) (cond b (o ∷ filter (λ x. is_used (obj c.rows x.0).request) os) (filter (λ x. is_used (obj c.rows x.0).request) os))) ≡ true
        → (list_any (λ k. k == slot) (map (λ x. (obj c.rows x.0).slot) (filter (λ x. is_used (obj c.rows x.0).request) os)) ≡ true → TakenAt c slot) → TakenAt c slot
    by true used f later = here_or ((obj c.rows o.0).slot == slot) used refl f later
    by false used f later = later f

pub taken_at : (c : Control) (slot : ℕ) → AreSockets c c.closed → slot ≢ 0 → list_any (λ k. k == slot) (reaper_slots c) ≡ true → TakenAt c slot
taken_at c slot all other mine = among_closed c slot c.closed all (subst (λ (b : Bool). (b || list_any (λ k. k == slot) (map (λ o. (obj c.rows o.0).slot) (filter (λ o. is_used (obj c.rows o.0).request) c.closed))) ≡ true) (ne_eqb 0 slot (λ same. other (sym same))) mine)

-- ---- in the one order
module _ {G N S : Type 0} (d : Lent G N S) (order : IsOneOrder d) where
  abbrev c : Control
  c = control_of d.past

  kept_now : Kept (control_of d.past)
  kept_now =
      let all = order.order in
      subst Kept (sym order.control) (run_kept d.items (begun d.past.workers) (begun_kept d.past.workers) all.run)

  -- who has it knows its mailbox
  slot_known : (i : ℕ) → has_after i (items_in (moments_of d)) ≡ Some d.caller → (obj (left_after i (moments_of d)).rows i).slot ≡ (obj (control_of d.past).rows i).slot
  slot_known i has =
      let all = order.order in
      (slot_left d.caller i d.items (begun d.past.workers) (begun 0) None (begun_kept d.past.workers) all.run (λ e. absurd (none_some e))
      (ap (has_after i) (sym (own_moments d.caller d.items (begun d.past.workers))) ∙ has)).slot
      ∙ ap (λ (x : Control). (obj x.rows i).slot) (sym order.control)

  -- whose it is, where it is not the root's
  pub whose_at : (slot : SlotId) → WaitsAt slot d → slot.0 ≢ 0 → IsOfClosed slot.0 d
  whose_at slot waits other =
      let w = d.past.workers in
      let t = taken_at c slot.0 order.closed other waits.mine in
      let i = t.object.0 in
      let some = full_letter (c.boxes (obj c.rows i).slot) (λ none. waits.some (ap c.boxes (sym t.at) ∙ none)) in record {
        socket = i;
        here = sym t.at;
        kind = t.socket;
        serves = both (slot.0 == (obj c.rows i).slot) _ (eq-eqb slot.0 (obj c.rows i).slot (sym t.at))
            (both (not (i == 0)) _ (ap not (ne_eqb i 0 (socket_above w c kept_now order.boxes (id i) t.socket)))
            (both (lives c (id i)) _ (socket_lives w c kept_now order.boxes (id i) t.socket some.0 some.1 some.2)
            (either (is_taken (obj c.rows i)) (is_owner d.caller (has_after i d.items)) (both (is_socket (obj c.rows i).kind) _ t.socket t.used))));
        left = λ has. slot_known i has ∙ t.at;
      }
