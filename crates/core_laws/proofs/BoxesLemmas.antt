-- Which mailboxes are of closed sockets whose Reap is on its way, and which are the reaper's, by the rows of their objects.
use Rattle.std.specs.Prelude.{◌≡◌, ◌≢◌, ◌≤◌, ◌<◌, ◌+◌, ◌-◌, ◌==◌, ◌&&◌, ◌||◌, ◌∷◌, [], ℕ, zero, suc, Bool, true, false, not, List, cond, filter, map, refl}
use Rattle.std.specs.List.{list_any}
use Rattle.std.proofs.Common.{arith, sym, ap, ◌∙◌, subst, inl, inr}
use Rattle.std.proofs.lemmas.Bool.{cases_order, eq-eqb, eqb-true}
use Rattle.std.proofs.lemmas.List.{get_or_default, get_or_past}
use Rattle.std.proofs.lemmas.List.Folds.{list_any_at, list_any_none}
use Rattle.zq_base.specs.declared.ids.ObjId.{ObjId}
use Rattle.spec_control.specs.declared.letter.Letter.{Letter}
use Rattle.spec_control.specs.declared.stage.Use.{Use}
use Rattle.spec_control.specs.declared.stage.Use.TheVariants.{Unused, OnItsWay, Used}
use Rattle.spec_control.specs.Stage.{is_coming, is_unused, is_used}
use Rattle.spec_control.specs.Row.{Row, is_socket, nobody}
use Rattle.spec_control.specs.Rows.{obj}
use Rattle.spec_control.specs.Control.{Control, begun, next_object}
use Rattle.spec_control.specs.ControlRun.{is_between}
use Rattle.spec_control.specs.Moments.{reaper_slots}
use Rattle.spec_control.specs.OwnAsks.{is_none}
use Rattle.control_laws.proofs.ListLemmas.{and, left, never, right}
use Rattle.control_laws.proofs.RootLemmas.{begun_kept}
use Rattle.control_laws.proofs.SoundLemmas.{socket_there}
use Rattle.spec_run.specs.CoreEvents.{may_take}
use Rattle.ctl_plane.specs.Past.{control_of}
use Rattle.plain_desk.specs.Lent.{IsOneOrder, Lent}
use Rattle.plain_desk.proofs.DeliverLemmas.{and_false}
use Rattle.plain_desk.specs.Reaping.{is_taken}
use Rattle.plain_desk.proofs.BoxLemmas.{socket_slot}
use Rattle.plain_desk.proofs.WaitLemmas.{taken_at}
use Rattle.core_laws.proofs.AllClosedLemmas.{among_over, or_left, or_right, was_closed}

module _ {G N S : Type 0} (d : Lent G N S) (order : IsOneOrder d) where
  abbrev c : Control
  c = control_of d.past

  abbrev w : ℕ
  w = d.past.workers

  -- an object of a mailbox that is none of the root's or the workers' has its number
  number_of : (slot k : ℕ) → k < next_object (control_of d.past) → (obj (control_of d.past).rows k).slot ≡ slot → d.past.workers < slot → d.past.workers + k ≡ slot
  number_of slot zero there at high = (let root = (order.boxes).root in absurd (omega (arith, root, at, high)))
  number_of slot (suc k) there at high = by (is_socket (obj c.rows (suc k)).kind) refl
    where
      by : (b : Bool) → is_socket (obj (control_of d.past).rows (suc k)).kind ≡ b → d.past.workers + suc k ≡ slot
      by true is = sym ((order.boxes).own (suc k) there is) ∙ at
      by false out = (let box = (order.boxes).shared (suc k) (omega arith) there out in let low = box.within in absurd (omega (arith, low, at, high)))

  -- and one of these is no socket
  no_socket : (slot k : ℕ) → (obj (control_of d.past).rows k).slot ≡ slot → slot ≤ d.past.workers → is_socket (obj (control_of d.past).rows k).kind ≡ false
  no_socket slot k at low = by (is_socket (obj c.rows k).kind) refl
    where
      not_so : (n : ℕ) → (obj (control_of d.past).rows n).slot ≡ slot → is_socket (obj (control_of d.past).rows n).kind ≡ true → ⊥
      not_so zero at is = (let boxes = order.boxes in let own = socket_slot w c boxes zero is in let root = boxes.root in let some = boxes.some_worker in absurd (omega (arith, own, root, some)))
      not_so (suc n) at is = (let own = socket_slot w c order.boxes (suc n) is in absurd (omega (arith, own, at, low)))

      by : (b : Bool) → is_socket (obj (control_of d.past).rows k).kind ≡ b → b ≡ false
      by true is = absurd (not_so k at is)
      by false out = refl

  -- each object in a mailbox is so, where each with this number is
  none_at : (slot : ℕ) → ((k : ℕ) → k < next_object (control_of d.past) → (obj (control_of d.past).rows k).slot ≡ slot → is_between (obj (control_of d.past).rows k) ≡ false) → list_any (λ o. is_between o && o.slot == slot) (control_of d.past).rows.objects ≡ false
  none_at slot free = list_any_none (λ (o : Row). is_between o && o.slot == slot) c.rows.objects (λ k x within.
      subst (λ (o : Row). (is_between o && o.slot == slot) ≡ false) (get_or_default c.rows.objects k nobody x within)
      (and_false (is_between (obj c.rows k)) ((obj c.rows k).slot == slot) (λ same. free k within (eqb-true (obj c.rows k).slot slot same))))

  -- ---- closed sockets whose Reap is on its way
  pub low_between : (slot : ℕ) → slot ≤ d.past.workers → list_any (λ o. is_between o && o.slot == slot) (control_of d.past).rows.objects ≡ false
  low_between slot low = none_at slot (λ k there at. ap (λ (b : Bool). b && is_coming (obj c.rows k).request) (no_socket slot k at low))

  pub high_between : (slot i : ℕ) → 0 < i → d.past.workers + i ≡ slot → list_any (λ o. is_between o && o.slot == slot) (control_of d.past).rows.objects ≡ is_between (obj (control_of d.past).rows i)
  high_between slot i more at = by (is_between (obj c.rows i)) refl
    where
      there_is : is_between (obj (control_of d.past).rows i) ≡ true → i < next_object (control_of d.past)
      there_is is =
          elim (cases_order i (next_object c)) [
            | inl same ↦ absurd (never (sym (ap is_between (get_or_past c.rows.objects i nobody (omega (arith, same)))) ∙ is))
            | inr (inl below) ↦ below
            | inr (inr over) ↦ absurd (never (sym (ap is_between (get_or_past c.rows.objects i nobody (omega (arith, over)))) ∙ is))
          ]

      by : (b : Bool) → is_between (obj (control_of d.past).rows i) ≡ b → list_any (λ o. is_between o && o.slot == slot) (control_of d.past).rows.objects ≡ b
      by true is =
          let there = there_is is in
          list_any_at (λ (o : Row). is_between o && o.slot == slot) c.rows.objects i nobody there
          (and (is_between (obj c.rows i)) _ is (eq-eqb (obj c.rows i).slot slot ((order.boxes).own i there (left (is_socket (obj c.rows i).kind) _ is) ∙ at)))
      by false is = none_at slot (λ k there same.
          (let its = number_of slot k there same (omega (arith, more, at)) in
          let one : k ≡ i = omega (arith, its, at) in
          ap (λ (n : ℕ). is_between (obj c.rows n)) one ∙ is))

  -- ---- the reaper's mailboxes
  pub root_reapers : list_any (λ k. k == 0) (reaper_slots (control_of d.past)) ≡ true
  root_reapers = refl

  -- where none of them is this one
  no_reapers : (slot : ℕ) → (list_any (λ k. k == slot) (reaper_slots (control_of d.past)) ≡ true → ⊥) → list_any (λ k. k == slot) (reaper_slots (control_of d.past)) ≡ false
  no_reapers slot none = by (list_any (λ k. k == slot) (reaper_slots c)) refl
    where
      by : (b : Bool) → list_any (λ k. k == slot) (reaper_slots (control_of d.past)) ≡ b → b ≡ false
      by true is = absurd (none is)
      by false is = refl

  pub worker_reapers : (slot : ℕ) → slot ≢ 0 → slot ≤ d.past.workers → list_any (λ k. k == slot) (reaper_slots (control_of d.past)) ≡ false
  worker_reapers slot other low = no_reapers slot (λ mine.
      (let t = taken_at c slot order.closed other mine in
      never (sym (no_socket slot t.object.0 t.at low) ∙ t.socket)))

  pub past_reapers : (slot i : ℕ) → d.past.workers + i ≡ slot → slot ≢ 0 → 0 < i → next_object (control_of d.past) ≤ i → list_any (λ k. k == slot) (reaper_slots (control_of d.past)) ≡ false
  past_reapers slot i at other more out = no_reapers slot (λ mine.
      (let t = taken_at c slot order.closed other mine in
      let there = socket_there c.rows t.object.0 t.socket in
      let its = number_of slot t.object.0 there t.at (omega (arith, more, at)) in
      absurd (omega (arith, its, at, there, out))))

  -- the mailboxes of those of these sockets that were taken over, and with one more that was, or was not
  abbrev taken_slots : List ObjId → List ℕ
  taken_slots os = map (λ o. (obj (control_of d.past).rows o.0).slot) (filter (λ o. is_used (obj (control_of d.past).rows o.0).request) os)

  abbrev slots_if : Bool → ObjId → List ObjId → List ℕ
  slots_if b o os = map (λ x. (obj (control_of d.past).rows x.0).slot) (cond b (o ∷ filter (λ x. is_used (obj (control_of d.past).rows x.0).request) os) (filter (λ x. is_used (obj (control_of d.past).rows x.0).request) os))

  among_used : (slot i : ℕ) → (obj (control_of d.past).rows i).slot ≡ slot → is_used (obj (control_of d.past).rows i).request ≡ true → (os : List ObjId) → list_any (λ o. o.0 == i) os ≡ true → list_any (λ k. k == slot) (taken_slots os) ≡ true
  among_used slot i at used [] h = absurd (never h)
  among_used slot i at used (o ∷ os) h = by (o.0 == i) refl h (among_used slot i at used os)
    where
      after_it : (b : Bool) → list_any (λ k. k == slot) (taken_slots os) ≡ true → list_any (λ k. k == slot) (slots_if b o os) ≡ true
      after_it true later = or_right ((obj c.rows o.0).slot == slot) _ later
      after_it false later = later

      here : (b : Bool) → b ≡ true → o.0 ≡ i → list_any (λ k. k == slot) (slots_if b o os) ≡ true
      here true is same = or_left ((obj c.rows o.0).slot == slot) _ (eq-eqb (obj c.rows o.0).slot slot (ap (λ (n : ℕ). (obj c.rows n).slot) same ∙ at))
      here false is same = absurd (never is)

      by : (b : Bool) → (o.0 == i) ≡ b → (b || list_any (λ x. x.0 == i) os) ≡ true → (list_any (λ x. x.0 == i) os ≡ true → list_any (λ k. k == slot) (taken_slots os) ≡ true) → list_any (λ k. k == slot) (slots_if (is_used (obj (control_of d.past).rows o.0).request) o os) ≡ true
      by true e k rest = (let same = eqb-true o.0 i e in here (is_used (obj c.rows o.0).request) (ap (λ (n : ℕ). is_used (obj c.rows n).request) same ∙ used) same)
      by false e k rest = after_it (is_used (obj c.rows o.0).request) (rest k)

  -- a socket that was taken over is one of those that were closed
  taken_closed : (i : ℕ) → is_taken (obj (control_of d.past).rows i) ≡ true → list_any (λ o. o.0 == i) (control_of d.past).closed ≡ true
  taken_closed i is =
      let all = order.order in
      subst (λ (x : Control). was_closed (obj x.rows i) ≡ true → list_any (λ o. o.0 == i) x.closed ≡ true) (sym order.control)
      (among_over d.items (begun w) (begun_kept w) all.run (λ k h. absurd (none_begun k h)) i)
      (and (is_socket (obj c.rows i).kind) _ (left (is_socket (obj c.rows i).kind) _ is) (used_not (obj c.rows i).request (right (is_socket (obj c.rows i).kind) _ is)))
    where
      used_not : (u : Use) → is_used u ≡ true → not (is_unused u) ≡ true
      used_not Used h = refl
      used_not OnItsWay h = refl
      used_not Unused h = absurd (never h)

      none_begun : (k : ℕ) → was_closed (obj (begun d.past.workers).rows k) ≡ true → ⊥
      none_begun zero h = never h
      none_begun (suc k) h = never h

  pub high_reapers : (slot i : ℕ) → d.past.workers + i ≡ slot → slot ≢ 0 → 0 < i → list_any (λ k. k == slot) (reaper_slots (control_of d.past)) ≡ is_taken (obj (control_of d.past).rows i)
  high_reapers slot i at other more = by (is_taken (obj c.rows i)) refl
    where
      by : (b : Bool) → is_taken (obj (control_of d.past).rows i) ≡ b → list_any (λ k. k == slot) (reaper_slots (control_of d.past)) ≡ b
      by true is =
          let socket = left (is_socket (obj c.rows i).kind) _ is in
          or_right (0 == slot) _ (among_used slot i ((order.boxes).own i (socket_there c.rows i socket) socket ∙ at) (right (is_socket (obj c.rows i).kind) _ is) c.closed (taken_closed i is))
      by false not_so = no_reapers slot (λ mine.
          (let t = taken_at c slot order.closed other mine in
          let its = number_of slot t.object.0 (socket_there c.rows t.object.0 t.socket) t.at (omega (arith, more, at)) in
          let one : t.object.0 ≡ i = omega (arith, its, at) in
          never (sym not_so ∙ ap (λ (n : ℕ). is_taken (obj c.rows n)) (sym one) ∙ and (is_socket (obj c.rows t.object.0).kind) _ t.socket t.used)))

-- ---- whether a letter may be taken
not_none : (ls : List Letter) → ls ≢ [] → not (is_none ls) ≡ true
not_none [] full = absurd (full refl)
not_none (l ∷ ls) full = refl

pub takes_none : (c : Control) (slot : ℕ) → c.boxes slot ≡ [] → false ≡ may_take c slot
takes_none c slot none = sym (ap (λ (ls : List Letter). not (is_none ls) && not (list_any (λ o. is_between o && o.slot == slot) c.rows.objects)) none)

takes_by : (c : Control) (slot : ℕ) (b : Bool) → c.boxes slot ≢ [] → list_any (λ o. is_between o && o.slot == slot) c.rows.objects ≡ b → not b ≡ may_take c slot
takes_by c slot b full held =
    sym (ap (λ (x : Bool). x && not (list_any (λ o. is_between o && o.slot == slot) c.rows.objects)) (not_none (c.boxes slot) full) ∙ ap not held)

module _ {G N S : Type 0} (d : Lent G N S) (order : IsOneOrder d) where
  pub takes_low : (slot : ℕ) → slot ≤ d.past.workers → (control_of d.past).boxes slot ≢ [] → true ≡ may_take (control_of d.past) slot
  takes_low slot low full = takes_by (control_of d.past) slot false full (low_between d order slot low)

  pub takes_high : (slot i : ℕ) → 0 < i → d.past.workers + i ≡ slot → (control_of d.past).boxes slot ≢ [] → not (is_between (obj (control_of d.past).rows i)) ≡ may_take (control_of d.past) slot
  takes_high slot i more at full = takes_by (control_of d.past) slot (is_between (obj (control_of d.past).rows i)) full (high_between d order slot i more at)
