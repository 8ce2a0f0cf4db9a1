-- Each object has a mailbox of its kind's.
use Rattle.std.specs.Prelude.{◌≡◌, ◌≤◌, ◌<◌, ◌+◌, ◌⊎◌, ◌++◌, ◌∷◌, [], ℕ, zero, suc, Bool, true, false, List, None, slice_index_or, refl}
use Rattle.std.specs.List.{list_any}
use Rattle.std.proofs.Common.{arith, sym, ap, ◌∙◌, inl, inr, subst}
use Rattle.std.proofs.lemmas.Bool.{cases_order}
use Rattle.std.proofs.lemmas.List.{get_or_push}
use Rattle.std.proofs.Math.ListN.{get_or-append}
use Rattle.std.proofs.Math.Nat.{mod-lt}
use Rattle.zq_base.specs.declared.kind.Kind.{Kind}
use Rattle.zq_base.specs.declared.options.Options.{Options}
use Rattle.spec_control.specs.declared.entry.Did.{Did}
use Rattle.spec_control.specs.declared.object.ObjKind.{ObjKind}
use Rattle.spec_control.specs.declared.object.ObjKind.TheVariants.{Root, Socket as IsSocket, Listener, Session}
use Rattle.spec_control.specs.Row.{Row, is_listener, is_session, is_socket, nobody, owner_fits}
use Rattle.spec_control.specs.Rows.{obj}
use Rattle.spec_control.specs.Control.{Control, begun, next_object}
use Rattle.spec_control.specs.After.{accepted_row, after, listener_row, session_row, socket_row, worker_slot}
use Rattle.spec_control.specs.ControlRun.{Fits}
use Rattle.control_laws.proofs.ListLemmas.{never}
use Rattle.control_laws.proofs.SoundLemmas.{socket_there}
use Rattle.control_laws.proofs.EndLemmas.{kept_but}
use Rattle.control_laws.proofs.LinkLemmas.{at_owner}
use Rattle.control_laws.proofs.StepLemmas.{inv_of, some_object}
use Rattle.control_laws.proofs.TellLemmas.{rows_of}
use Rattle.control_laws.specs.Kept.{Kept}
use Rattle.control_laws.specs.OwnMoves.{own_moves}
use Rattle.control_laws.proofs.HeldRowLemmas.{event_count, event_keeps, makes_object}
use Rattle.control_laws.proofs.SlotLemmas.{event_slot, event_slots, event_workers}
use Rattle.ctl_moves.specs.Serving.{HasWorkers}
use Rattle.plain_desk.specs.Lent.{HaveOwnBoxes, IsWorkers}
use Rattle.plain_desk.proofs.MakeLemmas.{made_count, MakesRow}

none_begun : (workers i : ℕ) → is_socket (obj (begun workers).rows i).kind ≡ true → ⊥
none_begun workers zero is = never is
none_begun workers (suc i) is = never is

pub boxes_begin : (workers : ℕ) → 1 ≤ workers → HaveOwnBoxes workers (begun workers)
boxes_begin workers some = record {
  some_worker = some;
  workers_are = refl;
  root = refl;
  many = refl;
  own = λ i there is. absurd (none_begun workers i is);
  shared = λ i above there out. absurd (omega (arith, above, there));
}

-- a row in place of another that has its kind and its mailbox
box_same : (workers : ℕ) (o p : Row) → p.slot ≡ o.slot → IsWorkers workers o.slot → IsWorkers workers p.slot
box_same workers o p same box = subst (IsWorkers workers) (sym same) box

-- an event that makes no object
pub boxes_stay : {N S : Type 0} (workers : ℕ) (c : Control) (did : Did N S) → Kept c → Fits c did → list_any makes_object (own_moves c did) ≡ false → HaveOwnBoxes workers c → HaveOwnBoxes workers (after did c)
boxes_stay workers c did kept fits none boxes =
    let count = event_count c did kept fits none in
    record {
      some_worker = boxes.some_worker;
      workers_are = event_workers c did none ∙ boxes.workers_are;
      root = event_slot c did kept fits 0 (some_object c.rows kept.reached) ∙ boxes.root;
      many = event_slots c did none ∙ boxes.many ∙ ap (λ (n : ℕ). workers + n) (sym count);
      own = λ i there is. (let within : i < next_object c = omega (arith, count, there) in
          event_slot c did kept fits i within ∙ boxes.own i within (ap is_socket (sym (event_keeps c did kept fits i within).kind) ∙ is));
      shared = λ i above there out. (let within : i < next_object c = omega (arith, count, there) in
          box_same workers (obj c.rows i) (obj (after did c).rows i) (event_slot c did kept fits i within) (boxes.shared i above within (ap is_socket (sym (event_keeps c did kept fits i within).kind) ∙ out)));
    }

-- ---- whose a mailbox is
module _ (workers : ℕ) (c : Control) (boxes : HaveOwnBoxes workers c) where
  -- a mailbox of an object is there
  pub slot_there : (i : ℕ) → i < next_object c → (obj c.rows i).slot < c.slots
  slot_there zero within = (let root = boxes.root in let many = boxes.many in omega (arith, root, many, within))
  slot_there (suc n) within = by (is_socket (obj c.rows (suc n)).kind) refl
    where
      by : (b : Bool) → is_socket (obj c.rows (suc n)).kind ≡ b → (obj c.rows (suc n)).slot < c.slots
      by true is = (let own = boxes.own (suc n) within is in let many = boxes.many in omega (arith, own, many, within))
      by false out = (let box = boxes.shared (suc n) (omega arith) within out in let low = box.within in let many = boxes.many in omega (arith, low, many, within))

  pub socket_slot : (i : ℕ) → is_socket (obj c.rows i).kind ≡ true → (obj c.rows i).slot ≡ workers + i
  socket_slot i is = boxes.own i (socket_there c.rows i is) is

  pub socket_above : (i : ℕ) → is_socket (obj c.rows i).kind ≡ true → 0 < i
  socket_above zero is = (let own = socket_slot zero is in let root = boxes.root in let some = boxes.some_worker in absurd (omega (arith, own, root, some)))
  socket_above (suc n) is = omega arith

  -- no socket shares its own
  pub same_box : (i j : ℕ) → is_socket (obj c.rows i).kind ≡ true → j < next_object c → (obj c.rows i).slot ≡ (obj c.rows j).slot → i ≡ j
  same_box zero j is there same =
      let own = socket_slot zero is in
      let root = boxes.root in
      let some = boxes.some_worker in
      absurd (omega (arith, own, root, some))
  same_box (suc i) zero is there same =
      let own = socket_slot (suc i) is in
      let root = boxes.root in
      absurd (omega (arith, own, root, same))
  same_box (suc i) (suc j) is there same = by (is_socket (obj c.rows (suc j)).kind) refl
    where
      mine : (obj c.rows (suc i)).slot ≡ workers + suc i
      mine = socket_slot (suc i) is

      by : (b : Bool) → is_socket (obj c.rows (suc j)).kind ≡ b → suc i ≡ suc j
      by true its = (let own = socket_slot (suc j) its in omega (arith, mine, own, same))
      by false out = (let box = boxes.shared (suc j) (omega arith) there out in let low = box.within in absurd (omega (arith, mine, low, same)))

  -- the root has that of no other
  pub root_box : (i : ℕ) → i < next_object c → (obj c.rows i).slot ≡ 0 → i ≡ 0
  root_box zero there at = refl
  root_box (suc i) there at = by (is_socket (obj c.rows (suc i)).kind) refl
    where
      by : (b : Bool) → is_socket (obj c.rows (suc i)).kind ≡ b → suc i ≡ 0
      by true is = (let own = socket_slot (suc i) is in absurd (omega (arith, own, at)))
      by false out = (let box = boxes.shared (suc i) (omega arith) there out in let some = box.above in absurd (omega (arith, some, at)))

-- a listener is no socket, and not the root
pub listener_no_socket : (kind : ObjKind) → is_listener kind ≡ true → is_socket kind ≡ false
listener_no_socket Root is = absurd (never is)
listener_no_socket (IsSocket kind) is = absurd (never is)
listener_no_socket Listener is = refl
listener_no_socket Session is = absurd (never is)

pub listener_above : (c : Control) → Kept c → (o : ℕ) → is_listener (obj c.rows o).kind ≡ true → 0 < o
listener_above c kept zero is = absurd (owned (obj c.rows 0).kind is (ap (owner_fits (obj c.rows 0).kind) (sym kept.shape.root) ∙ at_owner (obj c.rows 0) ((inv_of (rows_of (kept_but 0 c kept))).fits 0)))
  where
    owned : (kind : ObjKind) → is_listener kind ≡ true → owner_fits kind None ≡ true → ⊥
    owned Root is fits = never is
    owned (IsSocket kind) is fits = never is
    owned Listener is fits = never fits
    owned Session is fits = never is
listener_above c kept (suc n) is = omega arith

-- nor is a session
pub session_no_socket : (kind : ObjKind) → is_session kind ≡ true → is_socket kind ≡ false
session_no_socket Root is = absurd (never is)
session_no_socket (IsSocket kind) is = absurd (never is)
session_no_socket Listener is = absurd (never is)
session_no_socket Session is = refl

pub session_above : (c : Control) → Kept c → (o : ℕ) → is_session (obj c.rows o).kind ≡ true → 0 < o
session_above c kept zero is = absurd (owned (obj c.rows 0).kind is (ap (owner_fits (obj c.rows 0).kind) (sym kept.shape.root) ∙ at_owner (obj c.rows 0) ((inv_of (rows_of (kept_but 0 c kept))).fits 0)))
  where
    owned : (kind : ObjKind) → is_session kind ≡ true → owner_fits kind None ≡ true → ⊥
    owned Root is fits = never is
    owned (IsSocket kind) is fits = never is
    owned Listener is fits = never is
    owned Session is fits = never fits
session_above c kept (suc n) is = omega arith

-- there are workers, with their mailboxes
pub has_workers : (workers : ℕ) (c : Control) → Kept c → HaveOwnBoxes workers c → HasWorkers c
has_workers workers c kept boxes =
    let are = boxes.workers_are in
    let some = boxes.some_worker in
    let many = boxes.many in
    let root = some_object c.rows kept.reached in
    record { some = omega (arith, are, some); there = omega (arith, are, many, root) }

-- an object that is made gets the mailbox of its kind's: a socket the next, a listener or a session a worker's
pub record GetsBox (workers : ℕ) (c : Control) (row : Row) : Type 0 where
  pub own : is_socket row.kind ≡ true → row.slot ≡ c.slots
  pub shared : is_socket row.kind ≡ false → IsWorkers workers row.slot

module _ (workers : ℕ) (c : Control) (kept : Kept c) (boxes : HaveOwnBoxes workers c) (row : Row) (gets : GetsBox workers c row) where
  pub pushed_boxes : (d : Control) → MakesRow row c d → HaveOwnBoxes workers d
  pushed_boxes d made = record {
    some_worker = boxes.some_worker;
    workers_are = made.workers ∙ boxes.workers_are;
    root = ap (λ (o : Row). o.slot) (old 0 (some_object c.rows kept.reached)) ∙ boxes.root;
    many = (let many = boxes.many in let more = made.slots in omega (arith, more, many, count));
    own = λ i there is. own_of i there is (cases_order i (next_object c));
    shared = λ i above there out. shared_of i above there out (cases_order i (next_object c));
  }
    where
      count : next_object d ≡ next_object c + 1
      count = made_count row c d made

      row_at : (i : ℕ) → obj d.rows i ≡ slice_index_or (c.rows.objects ++ row ∷ []) i nobody
      row_at i = ap (λ (os : List Row). slice_index_or os i nobody) made.rows

      old : (i : ℕ) → i < next_object c → obj d.rows i ≡ obj c.rows i
      old i below = row_at i ∙ get_or-append c.rows.objects (row ∷ []) nobody i below

      new : (i : ℕ) → i ≡ next_object c → obj d.rows i ≡ row
      new i same = row_at i ∙ get_or_push c.rows.objects row nobody i (sym same)

      own_of : (i : ℕ) → i < next_object d → is_socket (obj d.rows i).kind ≡ true → (i ≡ next_object c) ⊎ ((i < next_object c) ⊎ (next_object c < i)) → (obj d.rows i).slot ≡ workers + i
      own_of i there is (inl same) =
          ap (λ (o : Row). o.slot) (new i same) ∙ gets.own (ap (λ (o : Row). is_socket o.kind) (sym (new i same)) ∙ is)
          ∙ boxes.many ∙ ap (λ (n : ℕ). workers + n) (sym same)
      own_of i there is (inr (inl below)) =
          ap (λ (o : Row). o.slot) (old i below) ∙ boxes.own i below (ap (λ (o : Row). is_socket o.kind) (sym (old i below)) ∙ is)
      own_of i there is (inr (inr over)) = absurd (omega (arith, there, over, count))

      shared_of : (i : ℕ) → 0 < i → i < next_object d → is_socket (obj d.rows i).kind ≡ false → (i ≡ next_object c) ⊎ ((i < next_object c) ⊎ (next_object c < i)) → IsWorkers workers (obj d.rows i).slot
      shared_of i above there out (inl same) =
          box_same workers row (obj d.rows i) (ap (λ (o : Row). o.slot) (new i same)) (gets.shared (ap (λ (o : Row). is_socket o.kind) (sym (new i same)) ∙ out))
      shared_of i above there out (inr (inl below)) =
          box_same workers (obj c.rows i) (obj d.rows i) (ap (λ (o : Row). o.slot) (old i below)) (boxes.shared i above below (ap (λ (o : Row). is_socket o.kind) (sym (old i below)) ∙ out))
      shared_of i above there out (inr (inr over)) = absurd (omega (arith, there, over, count))

-- ---- which mailbox each kind gets
module _ (workers : ℕ) (c : Control) (boxes : HaveOwnBoxes workers c) where
  -- by the number of the object
  numbered : (n : ℕ) → IsWorkers workers (worker_slot c n)
  numbered n =
      let are = boxes.workers_are in
      let some = boxes.some_worker in
      let less = mod-lt n (subst (λ (w : ℕ). 0 < w) (sym are) (omega (arith, some))) in
      record { above = omega arith; within = omega (arith, less, are) }

  pub socket_gets : (kind : Kind) (options : Options) → GetsBox workers c (socket_row kind options c)
  socket_gets kind options = record { own = λ is. refl; shared = λ out. absurd (never (sym out)) }

  pub listener_gets : (o : ℕ) → GetsBox workers c (listener_row o c)
  listener_gets o = record { own = λ is. absurd (never is); shared = λ out. numbered (next_object c) }

  pub session_gets : (o : ℕ) → GetsBox workers c (session_row o c)
  session_gets o = record { own = λ is. absurd (never is); shared = λ out. numbered (next_object c) }

  -- that of its listener
  pub accepted_gets : (o : ℕ) → 0 < o → o < next_object c → is_socket (obj c.rows o).kind ≡ false → GetsBox workers c (accepted_row o c)
  accepted_gets o above there out = record { own = λ is. absurd (never is); shared = λ none. boxes.shared o above there out }
