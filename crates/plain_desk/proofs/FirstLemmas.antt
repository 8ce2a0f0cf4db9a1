-- The first of the reaper's mailboxes in which a command waits.
use Rattle.std.specs.Prelude.{◌≡◌, ◌≢◌, ◌≤◌, ◌<◌, ◌==◌, ◌&&◌, ◌||◌, ◌∷◌, [], ℕ, Bool, true, false, not, List, Option, Some, None, All, cond, filter, find, refl}
use Rattle.std.proofs.Common.{arith, sym, ap, ◌∙◌, subst}
use Rattle.std.proofs.lemmas.Bool.{eq-eqb, ne_eqb}
use Rattle.std.proofs.lemmas.List.Elements.{All-head, All-tail, All-weaker}
use Rattle.zq_base.specs.declared.ids.ObjId.{ObjId}
use Rattle.zq_base.specs.declared.ids.SlotId.{SlotId}
use Rattle.spec_control.specs.declared.letter.Letter.{Letter}
use Rattle.spec_control.specs.declared.entry.SeenEmpty.TheVariants.{Reapers}
use Rattle.spec_control.specs.declared.stage.Use.{Use}
use Rattle.spec_control.specs.declared.stage.Use.TheVariants.{Unused, OnItsWay, Used}
use Rattle.spec_control.specs.Stage.{has_ended, is_used}
use Rattle.spec_control.specs.Row.{Row, is_socket, nobody}
use Rattle.spec_control.specs.Rows.{is_owner, obj}
use Rattle.spec_control.specs.Control.{Control, begun}
use Rattle.spec_control.specs.ControlRun.{AreEmpty, after_all}
use Rattle.spec_control.specs.Has.{has_after}
use Rattle.spec_control.specs.Moments.{first_waiting}
use Rattle.spec_control.specs.OwnAsks.{is_none}
use Rattle.control_laws.proofs.ListLemmas.{left, never, placed, right}
use Rattle.control_laws.specs.Kept.{Kept}
use Rattle.control_laws.proofs.RootLemmas.{oldest_lives}
use Rattle.ctl_state.specs.Listed.{Listed}
use Rattle.ctl_plane.specs.Past.{Past, control_of}
use Rattle.control_laws.specs.Closed.{lives, waits}
use Rattle.control_laws.proofs.ReapLemmas.{all_empty, found_stands, root_waits, socket_waits}
use Rattle.control_laws.proofs.SoundLemmas.{socket_there}
use Rattle.plain_desk.specs.declared.mark.Mark.{Mark}
use Rattle.plain_desk.specs.Lent.{AreSockets, HaveOwnBoxes, IsLent, Lent, lent_to}
use Rattle.plain_desk.specs.Order.{order_of}
use Rattle.plain_desk.specs.Reaping.{IsOfClosed, IsReaping, WaitsFirst, is_taken}
use Rattle.plain_desk.proofs.BoxLemmas.{same_box, slot_there, socket_slot}
use Rattle.plain_desk.proofs.DeliverLemmas.{desk_slot_is}
use Rattle.plain_desk.proofs.LentLemmas.{control_is, kept_of}

some_letter : (ls : List Letter) → not (is_none ls) ≡ true → (l : Letter) × (rest : List Letter) × (ls ≡ l ∷ rest)
some_letter [] h = absurd (never h)
some_letter (l ∷ rest) h = (l, rest, refl)

pub full_letter : (ls : List Letter) → ls ≢ [] → (l : Letter) × (rest : List Letter) × (ls ≡ l ∷ rest)
full_letter [] h = absurd (h refl)
full_letter (l ∷ rest) h = (l, rest, refl)

cons_not : {l : Letter} {rest : List Letter} → l ∷ rest ≡ [] → ⊥
cons_not e = Prim.grind arith

used_is : (u : Use) → is_used u ≡ true → u ≡ Used
used_is Unused h = absurd (never h)
used_is OnItsWay h = absurd (never h)
used_is Used h = refl

pub both : (a b : Bool) → a ≡ true → b ≡ true → (a && b) ≡ true
both true b h k = k
both false b h k = absurd (never h)

pub either : (a b : Bool) → a ≡ true → (a || b) ≡ true
either true b h = refl
either false b h = absurd (never h)

-- a look among these for what passes a second test too, wherever it passes the first
find_among : (p q : ObjId → Bool) (os : List ObjId) → All (λ o. p o ≡ true → q o ≡ true) os → find p (filter q os) ≡ find p os
find_among p q [] all = refl
find_among p q (o ∷ os) all = by (q o) refl (p o) refl (find_among p q os (All-tail (λ (o : ObjId). p o ≡ true → q o ≡ true) o os all))
  where
    by : (b : Bool) → q o ≡ b → (a : Bool) → p o ≡ a → find p (filter q os) ≡ find p os → find p (cond b (o ∷ filter q os) (filter q os)) ≡ cond (p o) (Some o) (find p os)
    by true e a f rest = ap (λ (r : Option ObjId). cond (p o) (Some o) r) rest
    by false e true f rest = absurd (never (sym e ∙ All-head (λ (o : ObjId). p o ≡ true → q o ≡ true) o os all f))
    by false e false f rest = rest ∙ sym (ap (λ (b : Bool). cond b (Some o) (find p os)) f)

module _ (workers : ℕ) (c : Control) (kept : Kept c) (boxes : HaveOwnBoxes workers c) where
  pub slots_there : (os : List ObjId) → AreSockets c os → All (λ o. (obj c.rows o.0).slot < c.slots) os
  slots_there os all k d within = slot_there workers c boxes _ (socket_there c.rows _ (all k d within))

  -- a mailbox that there is not is empty
  pub past_empty : (slot : ℕ) → c.slots ≤ slot → c.boxes slot ≡ []
  past_empty slot out = by (c.boxes slot) refl
    where
      by : (ls : List Letter) → c.boxes slot ≡ ls → ls ≡ []
      by [] e = refl
      by (l ∷ rest) e =
          let o = oldest_lives c kept slot l.to.0 l.word rest e in
          let there = slot_there workers c boxes l.to.0 (placed (λ (r : Row). has_ended r.stage) c.rows.objects nobody l.to.0 refl o.1) in
          let same = o.0 in
          absurd (omega (arith, out, there, same))

  -- a socket for which a command waits lives
  module _ (o : ObjId) (socket : is_socket (obj c.rows o.0).kind ≡ true) where
    pub socket_lives : (l : Letter) (rest : List Letter) → c.boxes (obj c.rows o.0).slot ≡ l ∷ rest → lives c o ≡ true
    socket_lives l rest full =
        let a = oldest_lives c kept (obj c.rows o.0).slot l.to.0 l.word rest full in
        let same = same_box workers c boxes o.0 l.to.0 socket (placed (λ (r : Row). has_ended r.stage) c.rows.objects nobody l.to.0 refl a.1) (sym a.0) in
        ap not (ap (λ (n : ℕ). has_ended (obj c.rows n).stage) same ∙ a.1)

    pub waiting_letter : waits c o ≡ true → (l : Letter) × (rest : List Letter) × (c.boxes (obj c.rows o.0).slot ≡ l ∷ rest)
    waiting_letter is = some_letter (c.boxes (obj c.rows o.0).slot) (right (is_used (obj c.rows o.0).request) _ is)

    pub waiting_lives : waits c o ≡ true → lives c o ≡ true
    waiting_lives is = (let w = waiting_letter is in socket_lives w.0 w.1 w.2)

    -- it is none of the root's
    pub socket_above : o.0 ≢ 0
    socket_above same =
        let root = boxes.root in
        let own = socket_slot workers c boxes o.0 socket in
        let some = boxes.some_worker in
        let at = ap (λ (n : ℕ). (obj c.rows n).slot) same in
        omega (arith, root, own, some, at)

  -- of the closed sockets those that are kept tell the first
  pub same_first : (os : Listed ObjId) → IsReaping c os → find (waits c) os.items ≡ find (waits c) c.closed
  same_first os reaps =
      sym (find_among (waits c) (lives c) os.items (waiting os.items reaps.sockets))
      ∙ ap (find (waits c)) reaps.same
      ∙ find_among (waits c) (lives c) c.closed (waiting c.closed reaps.closed_sockets)
    where
      waiting : (xs : List ObjId) → AreSockets c xs → All (λ o. waits c o ≡ true → lives c o ≡ true) xs
      waiting xs all = All-weaker (λ (o : ObjId). is_socket (obj c.rows o.0).kind ≡ true) (λ (o : ObjId). waits c o ≡ true → lives c o ≡ true) (λ o socket. waiting_lives o socket) xs all

-- ---- as the desk is seen
module _ {G N S : Type 0} (ms : List Mark) (past : Past G N S) (wakers by : ℕ) (l : Lent G N S) (seen : lent_to by ms past ≡ l) (lent : IsLent ms past wakers) where
  abbrev c : Control
  c = control_of past

  first_is : (slot : ℕ) → first_waiting c ≡ Some slot → first_waiting (after_all l.items (begun l.past.workers)) ≡ Some slot
  first_is slot is =
      ap (λ (d : Lent G N S). first_waiting (after_all d.items (begun d.past.workers))) (sym seen)
      ∙ ap first_waiting (control_is ms past wakers lent) ∙ is

  -- the root's is not empty
  pub root_first : c.boxes 0 ≢ [] → WaitsFirst (record { 0 = 0 }) l
  root_first full =
      let some = full_letter (c.boxes 0) full in
      record {
        first = first_is 0 (root_waits c some.0 some.1 some.2);
        here = ap (λ (d : Lent G N S). first_waiting (control_of d.past)) (sym seen) ∙ root_waits c some.0 some.1 some.2;
        some = subst (λ (d : Lent G N S). (control_of d.past).boxes 0 ≢ []) seen full;
        full = λ empty. full (ap (λ (d : Lent G N S). (control_of d.past).boxes 0) seen ∙ empty.0);
        whose = λ other. absurd (other refl);
      }

  module _ (kept : Listed ObjId) (reaps : IsReaping c kept) (none : c.boxes 0 ≡ []) where
    -- that of a closed socket is the first
    pub closed_first : (o : ObjId) (slot : SlotId) → find (waits c) kept.items ≡ Some o → (obj c.rows o.0).slot ≡ slot.0 → WaitsFirst slot l
    closed_first o slot is at =
        let keeps = kept_of ms past wakers lent in
        let found = sym (same_first past.workers c keeps lent.boxes kept reaps) ∙ is in
        let stands = found_stands (waits c) c.closed o found in
        let socket = stands.1 (λ (x : ObjId). is_socket (obj c.rows x.0).kind ≡ true) reaps.closed_sockets in
        let w = waiting_letter past.workers c keeps lent.boxes o socket stands.0 in
        let used = left (is_used (obj c.rows o.0).request) _ stands.0 in
        record {
          first = first_is slot.0 (socket_waits c o none found ∙ ap (λ (n : ℕ). Some n) at);
          here = ap (λ (d : Lent G N S). first_waiting (control_of d.past)) (sym seen) ∙ socket_waits c o none found ∙ ap (λ (n : ℕ). Some n) at;
          some = subst (λ (d : Lent G N S). (control_of d.past).boxes slot.0 ≢ []) seen (λ e. cons_not (sym w.2 ∙ ap c.boxes at ∙ e));
          full = λ empty. (
              let all : All (λ o. (obj c.rows o.0).request ≡ Used → c.boxes (obj c.rows o.0).slot ≡ []) c.closed = subst (λ (d : Lent G N S). All (λ o. (obj (control_of d.past).rows o.0).request ≡ Used → (control_of d.past).boxes (obj (control_of d.past).rows o.0).slot ≡ []) (control_of d.past).closed) (sym seen) empty.1 in
              cons_not (sym w.2 ∙ stands.1 (λ (x : ObjId). (obj c.rows x.0).request ≡ Used → c.boxes (obj c.rows x.0).slot ≡ []) all (used_is (obj c.rows o.0).request used)));
          whose = λ other. subst (λ (d : Lent G N S). IsOfClosed slot.0 d) seen (record {
            socket = o.0;
            here = sym at;
            kind = socket;
            serves = both (slot.0 == (obj c.rows o.0).slot) _ (eq-eqb slot.0 (obj c.rows o.0).slot (sym at))
                (both (not (o.0 == 0)) _ (ap not (ne_eqb o.0 0 (socket_above past.workers c keeps lent.boxes o socket)))
                (both (lives c o) _ (waiting_lives past.workers c keeps lent.boxes o socket stands.0)
                (either (is_taken (obj c.rows o.0)) (is_owner by (has_after o.0 (order_of ms past.events))) (both (is_socket (obj c.rows o.0).kind) _ socket used))));
            left = λ has. desk_slot_is ms past wakers by (lent_to by ms past) refl lent by refl o.0 has ∙ at;
          });
        }

    -- none is
    pub none_first : find (waits c) kept.items ≡ None → AreEmpty (control_of l.past) Reapers
    none_first is =
        subst (λ (d : Lent G N S). AreEmpty (control_of d.past) Reapers) seen
        (none, all_empty c (sym (same_first past.workers c (kept_of ms past wakers lent) lent.boxes kept reaps) ∙ is))
