-- The calls of a caller in the one order, from the control state that they found.
use Rattle.std.specs.Prelude.{◌≡◌, ◌<◌, ◌+◌, ◌∷◌, [], ℕ, true, All, List, refl}
use Rattle.std.proofs.Common.{sym, ap, ◌∙◌, subst}
use Rattle.std.proofs.lemmas.List.{append_cancel_left}
use Rattle.spec_control.specs.declared.entry.Item.{Item}
use Rattle.spec_control.specs.Row.{is_socket}
use Rattle.spec_control.specs.Rows.{obj}
use Rattle.spec_control.specs.Control.{Control, begun, id, next_object}
use Rattle.spec_control.specs.ControlRun.{after_all, after_item}
use Rattle.control_laws.proofs.AttachedOnceLemmas.{AreOld, old_run}
use Rattle.spec_control.specs.Moments.{Moment, moments_from}
use Rattle.ctl_plane.specs.Past.{control_of}
use Rattle.control_laws.proofs.ThereLemmas.{had_objects_are_there}
use Rattle.plain_desk.specs.Lent.{moments_of, GrowsBy, HasSocket, IsOneOrder, IsWorkers, Lent}
use Rattle.plain_desk.proofs.StayLemmas.{found_by, kept_found, led_more, run_more, stays_at}
use Rattle.socket_laws.proofs.LastLemmas.{grown}
use Rattle.socket_laws.proofs.SocketLemmas.{is_in}
use Rattle.core_laws.specs.Calls.{AreCallsOn}
use Rattle.core_laws.specs.Lines.{ObjectsStay}
use Rattle.core_laws.proofs.ActLemmas.{IsOn}
use Rattle.core_laws.proofs.ChainLemmas.{Follow, HasBoxes, follow, led_by}

module _ {N S : Type 0} where
  pub led_from : (xs : List (Item N S)) (c : Control) → led_by c (moments_from c xs) ≡ after_all xs c
  led_from [] c = refl
  led_from (x ∷ xs) c = led_from xs (after_item x c)

module _ {G N S : Type 0} (old new : Lent G N S) (behind : IsOneOrder new) (grows : GrowsBy old new) where
  boxes_now : HasBoxes old.past.workers (after_all grows.more (found_by old new behind grows))
  boxes_now =
      let boxes = behind.boxes in
      let led = led_more old new behind grows in
      record {
        root = ap (λ (x : Control). (obj x.rows 0).slot) (sym led) ∙ boxes.root;
        own = λ i there is. ap (λ (x : Control). (obj x.rows i).slot) (sym led)
            ∙ boxes.own i (subst (λ (x : Control). i < next_object x) (sym led) there) (ap (λ (x : Control). is_socket (obj x.rows i).kind) led ∙ is)
            ∙ ap (λ (n : ℕ). n + i) grows.workers;
        shared = λ i more there out. subst (λ (x : Control). IsWorkers old.past.workers (obj x.rows i).slot) led
            (subst (λ (n : ℕ). IsWorkers n (obj (control_of new.past).rows i).slot) grows.workers
            (boxes.shared i more (subst (λ (x : Control). i < next_object x) (sym led) there) (ap (λ (x : Control). is_socket (obj x.rows i).kind) led ∙ out)));
      }

  module _ (before : IsOneOrder old) where
    pub old_found : AreOld (found_by old new behind grows)
    old_found = (let order = before.order in old_run old.past.workers old.items order.run)

    -- an open socket of the caller's goes over them
    pub follows : (o : ℕ) → HasSocket old (id o) → Follow old.past.workers o (found_by old new behind grows) (moments_from (found_by old new behind grows) grows.more)
    follows o known =
        let order = before.order in
        let is = is_in old before o known in
        let socket = is.open_now in
        follow old.past.workers o grows.more (found_by old new behind grows) (kept_found old new behind grows before) old_found (had_objects_are_there N S old.past.workers old.items order.run o old.caller is.has)
        (subst (λ (x : Control). is_socket (obj x.rows o).kind ≡ true) before.control socket.socket) (run_more old new behind grows) boxes_now

    -- each object is there still
    pub objects_stay : (k : ℕ) → k < next_object (control_of old.past) → k < next_object (control_of new.past)
    objects_stay k there = (stays_at old new behind grows before k there).there

-- those moments are the calls'
pub calls_are : {G N S : Type 0} (old new : Lent G N S) (o : ℕ) (calls : AreCallsOn o old new) → (let grows : GrowsBy old new = calls.grows in calls.more ≡ moments_from (after_all old.items (begun old.past.workers)) grows.more)
calls_are {N = N} {S = S} old new o calls =
    let grows : GrowsBy old new = calls.grows in
    append_cancel_left (moments_of old) calls.more (moments_from (after_all old.items (begun old.past.workers)) grows.more) (sym calls.moments ∙ grown old new grows)

pub calls_on : {G N S : Type 0} (old new : Lent G N S) (o : ℕ) (calls : AreCallsOn o old new) → (let grows : GrowsBy old new = calls.grows in All (IsOn o) (moments_from (after_all old.items (begun old.past.workers)) grows.more))
calls_on {N = N} {S = S} old new o calls = subst (λ (l : List (Moment N S)). All (IsOn o) l) (calls_are old new o calls) calls.each

pub objects_are_there : (G N S : Type 0) → ObjectsStay G N S
objects_are_there G N S old new before behind grows i there = objects_stay old new behind grows before i there
