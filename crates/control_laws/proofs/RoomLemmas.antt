-- Each command that is put was to come, or has its room from the event that puts it.
use Rattle.std.specs.Prelude.{◌≡◌, ◌<◌, ◌≤◌, ◌+◌, ◌==◌, ◌&&◌, ℕ, zero, suc, Bool, true, false, not, cond, List, [], ◌∷◌, Option, Some, None, length, sum_by, slice_index_or, refl}
use Rattle.std.proofs.Common.{arith, sym, ap, ◌∙◌, subst, inl, inr}
use Rattle.std.proofs.lemmas.Bool.{eq-eqb, ne_eqb, cases_eq}
use Rattle.std.proofs.lemmas.List.{get_or-set_same}
use Rattle.std.proofs.lemmas.List.Sums.{sum_by-set, sum_by_push, sum_by-cons}
use Rattle.spec_control.specs.declared.letter.Letter.{Letter}
use Rattle.spec_control.specs.declared.entry.Did.{Did}
use Rattle.spec_control.specs.declared.entry.Did.TheVariants.{Asked as DidAsk, Delivered, Delimited}
use Rattle.spec_control.specs.declared.stage.Stage.TheVariants.{Finished}
use Rattle.spec_control.specs.Stage.{is_alive, has_ended, is_unused}
use Rattle.spec_control.specs.Place.{Unmade, to_put}
use Rattle.spec_control.specs.PairPhase.{behind_first}
use Rattle.spec_control.specs.Row.{Row, nobody, link_after, is_socket, is_unowned}
use Rattle.spec_control.specs.Rows.{Rows, PairRow, no_pair, obj, pair, with_object, with_pair, end_place, end_owner, pair_after}
use Rattle.spec_control.specs.Control.{Control, begun, with_value}
use Rattle.spec_control.specs.After.{owner_or_root, after}
use Rattle.spec_control.specs.ControlRun.{Fits, after_all}
use Rattle.control_laws.specs.Kept.{Kept}
use Rattle.control_laws.proofs.RootLemmas.{runs_are_kept}
use Rattle.control_laws.proofs.ListLemmas.{never}
use Rattle.control_laws.proofs.RowLemmas.{pair_there}
use Rattle.control_laws.proofs.StepLemmas.{same_slot, same_owner, after_owner}
use Rattle.control_laws.proofs.MailLemmas.{value_here, value_else}
use Rattle.control_laws.proofs.EndLemmas.{may_end_is}
use Rattle.control_laws.specs.Move.{Move, LinkMoves, EndMoves, ObjectEnds, ObjectMade, PairDrawn, LetterPut, move_rows, move_boxes, move_letters, is_named, MayMove, Leads, MovesTo}
use Rattle.control_laws.specs.OwnMoves.{having_taken}
use Rattle.control_laws.specs.Room.{down_to_come, up_to_come, row_to_come, pair_to_come, all_to_come, move_room, slots_of, to_come, reserved, took_from, RoomIsKept}
use Rattle.control_laws.proofs.SoundLemmas.{Sound, sound_of, sound_move, move_stays, link_there, ending_there, leads_stay}
use Rattle.control_laws.proofs.WeighLemmas.{gain_of_own, taken_rows}
use Rattle.control_laws.proofs.EventGoLemmas.{event_goes}
use Rattle.control_laws.proofs.RowRoomLemmas.{letters_for, length_all, nothing, cond_le, one_for, row_room, end_room, puts_pair, pair_for, pair_room}

-- ---- one move, where this is the mailbox of each object that is there
abbrev Agrees : (ℕ → ℕ) → Rows → Type 0
Agrees slot s = (i : ℕ) → i < length s.objects → (obj s i).slot ≡ slot i

stop_socket : (u r k a : Bool) → cond (u && (r && (k && a))) 1 0 ≤ cond k 1 0
stop_socket true true true true = omega arith
stop_socket true true true false = omega arith
stop_socket true true false a = omega arith
stop_socket true false k a = omega arith
stop_socket false r k a = omega arith

down_most : (o : Row) → down_to_come o ≤ cond (is_socket o.kind) 2 1
down_most o = let stop = stop_socket (is_unused o.stop) (is_unused o.request) (is_socket o.kind) (is_alive o.stage) in let alive = one (is_alive o.stage) in let two = by (is_socket o.kind) in omega (arith, stop, alive, two)
  where
    one : (b : Bool) → cond b 1 0 ≤ 1
    one true = omega arith
    one false = omega arith

    by : (k : Bool) → ◌≡◌ {A = ℕ} (cond k 2 1) (1 + cond k 1 0)
    by true = refl
    by false = refl

up_most : (o : Row) → up_to_come o ≤ 2
up_most o = by (has_ended o.stage) (is_unused o.request) (is_unowned o.owner)
  where
    by : (h u w : Bool) → cond h 0 (cond u 1 0 + cond w 0 1) ≤ 2
    by true u w = omega arith
    by false true true = omega arith
    by false true false = omega arith
    by false false true = omega arith
    by false false false = omega arith

-- who owns a row is there, and so is the root
owner_there : (t : Rows) → Sound t → (w : Option ℕ) (i : ℕ) → (obj t i).owner ≡ w → owner_or_root w < length t.objects
owner_there t sound None i of = let there = sound.ends 0 true in omega (arith, there)
owner_there t sound (Some w) i of = sound.owners i w of

module _ (slot : ℕ → ℕ) (m : ℕ) where
  move_within : (x : Move) (s : Rows) → Sound s → MayMove x s → Agrees slot s → Agrees slot (move_rows x s) →
      all_to_come slot m (move_rows x s) + letters_for (move_rows x s) m (move_letters x s) ≤ all_to_come slot m s + move_room slot m x
  move_within (LinkMoves i e) s sound may_so before then_so =
      let there = link_there s i e may_so in
      let o = obj s i in
      let t = with_object i (link_after e o) s in
      let set = sum_by-set (row_to_come slot m) s.objects i (link_after e o) nobody there in
      let row = ap (λ (r : Row). r.slot) (get_or-set_same s.objects i (link_after e o) nobody there) ∙ same_slot e o in
      let less = row_room slot m t i e o may_so row (then_so (owner_or_root o.owner) (owner_there t (sound_move (LinkMoves i e) s sound may_so) o.owner i (ap (λ (r : Row). r.owner) (get_or-set_same s.objects i (link_after e o) nobody there) ∙ same_owner e o))) in
      omega (arith, set, less)
  move_within (EndMoves e event) s sound may_so before then_so =
      let there = pair_there s e.pair.0 e.a event may_so.comes in
      let p = pair s e.pair.0 in
      let q = pair_after event e.a p in
      let t = with_pair e.pair.0 q s in
      let set = sum_by-set (pair_to_come slot m) s.pairs e.pair.0 q no_pair there in
      let less = pair_room slot m event e.a p may_so.comes in
      let w = end_owner (pair t e.pair.0) (not e.a) in
      let letters = pair_for t m w event (end_place p e.a) e in
      let same = ap (λ (r : PairRow). end_owner r (not e.a)) (get_or-set_same s.pairs e.pair.0 q no_pair there) ∙ after_owner event e.a (not e.a) p in
      let at = ap (λ (n : ℕ). cond (n == m) (puts_pair event (end_place p e.a)) 0) (then_so w ((sound_move (EndMoves e event) s sound may_so).ends e.pair.0 (not e.a)) ∙ ap slot same) in
      omega (arith, set, less, letters, at)
  move_within (ObjectEnds i) s sound may_so before then_so =
      let there = ending_there s i may_so in
      let o = obj s i in
      let t = with_object i (record o { stage = Finished }) s in
      let set = sum_by-set (row_to_come slot m) s.objects i (record o { stage = Finished }) nobody there in
      let less = end_room slot m t i o (may_end_is s i may_so).asked (then_so (owner_or_root o.owner) (owner_there t (sound_move (ObjectEnds i) s sound may_so) o.owner i (ap (λ (r : Row). r.owner) (get_or-set_same s.objects i (record o { stage = Finished }) nobody there)))) in
      omega (arith, set, less)
  move_within (ObjectMade row) s sound may_so before then_so =
      let more = sum_by_push (row_to_come slot m) s.objects row in
      let down = cond_le (row.slot == m) (down_to_come row) 0 (cond (is_socket row.kind) 2 1) (let most = down_most row in omega (arith, most)) in
      let upward = cond_le (slot (owner_or_root row.owner) == m) (up_to_come row) 0 2 (let most = up_most row in omega (arith, most)) in
      let a = nothing (row.slot == m) in
      let b = nothing (slot (owner_or_root row.owner) == m) in
      omega (arith, more, down, upward, a, b)
  move_within (PairDrawn x y) s sound may_so before then_so = let more = sum_by_push (pair_to_come slot m) s.pairs (record { a_owner = x; b_owner = y; a = Unmade; b = Unmade }) in omega (arith, more)
  move_within (LetterPut to word) s sound may_so before then_so =
      let one = one_for s m to word in
      let at = ap {B = ℕ} (λ (n : ℕ). cond (n == m) 1 0) (then_so to may_so) in
      omega (arith, one, at)

-- ---- an event's moves
leads_room : (slot : ℕ → ℕ) (m : ℕ) (ms : List Move) (s : Rows) (boxes : ℕ → List Letter) (d : Control) → Sound s → Leads ms s boxes d → ((i : ℕ) → (obj d.rows i).slot ≡ slot i) →
    length (d.boxes m) + all_to_come slot m d.rows ≤ length (boxes m) + all_to_come slot m s + sum_by (move_room slot m) ms
leads_room slot m [] s boxes d sound h is = let rows = ap (all_to_come slot m) h.0 in let mail = ap (λ (b : ℕ → List Letter). length (b m)) h.1 in omega (arith, rows, mail)
leads_room slot m (x ∷ ms) s boxes d sound h is =
    let t = move_rows x s in
    let later = leads_room slot m ms t (move_boxes x s boxes) d (sound_move x s sound h.0) h.1 is in
    let before : Agrees slot s = (λ i there. let now = move_stays x s i h.0 there in sym now.slot ∙ sym (leads_stay ms t (move_boxes x s boxes) d i h.1 now.there).slot ∙ is i) in
    let then_so : Agrees slot t = (λ i there. sym (leads_stay ms t (move_boxes x s boxes) d i h.1 there).slot ∙ is i) in
    let now = move_within slot m x s sound h.0 before then_so in
    let mail = length_all m t (move_letters x s) boxes in
    let all = sum_by-cons (move_room slot m) x ms in
    omega (arith, later, now, mail, all)

room_free : (slot : ℕ → ℕ) (m : ℕ) (x : Move) → is_named x ≡ false → move_room slot m x ≡ 0
room_free slot m (LinkMoves i event) h = refl
room_free slot m (EndMoves e event) h = refl
room_free slot m (ObjectEnds i) h = refl
room_free slot m (ObjectMade row) h = absurd (never (sym h))
room_free slot m (PairDrawn x y) h = absurd (never (sym h))
room_free slot m (LetterPut to word) h = absurd (never (sym h))

-- the sums that go by each object's mailbox, where no object that is there got another one
sum_same : {X : Type 0} (f g : X → ℕ) (d : X) (xs : List X) → ((k : ℕ) → k < length xs → f (slice_index_or xs k d) ≡ g (slice_index_or xs k d)) → sum_by f xs ≡ sum_by g xs
sum_same f g d [] h = refl
sum_same f g d (x ∷ xs) h =
    let a = sum_by-cons f x xs in
    let b = sum_by-cons g x xs in
    let first = h zero (omega arith) in
    let rest = sum_same f g d xs (λ k within. h (suc k) (omega (arith, within))) in
    omega (arith, a, b, first, rest)

all_same : (slot other : ℕ → ℕ) (m : ℕ) (s : Rows) → Sound s → ((i : ℕ) → i < length s.objects → slot i ≡ other i) → all_to_come slot m s ≡ all_to_come other m s
all_same slot other m s sound same =
    let rows = sum_same (row_to_come slot m) (row_to_come other m) nobody s.objects
    (λ k within. ap (λ (n : ℕ). cond ((obj s k).slot == m) (down_to_come (obj s k)) 0 + cond (n == m) (up_to_come (obj s k)) 0) (same (owner_or_root (obj s k).owner) (owner_there s sound (obj s k).owner k refl))) in
    let pairs = sum_same (pair_to_come slot m) (pair_to_come other m) no_pair s.pairs
    (λ k within. ap (λ (n : ℕ). cond (n == m) (to_put (pair s k).b) 0 + cond (slot (pair s k).b_owner == m) (to_put (pair s k).a) 0) (same (pair s k).a_owner (sound.ends k true))
    ∙ ap (λ (n : ℕ). cond (other (pair s k).a_owner == m) (to_put (pair s k).b) 0 + cond (n == m) (to_put (pair s k).a) 0) (same (pair s k).b_owner (sound.ends k false))) in
    omega (arith, rows, pairs)

-- moves of one event, from rows that are sound
pub goes_room : (own : List Move) (c d : Control) → Sound c.rows → MovesTo own c d → (m : ℕ) → length (d.boxes m) + to_come d m ≤ (length (c.boxes m) + to_come c m) + sum_by (move_room (slots_of d.rows) m) own
goes_room own c d sound g m =
    let slot = slots_of d.rows in
    let all = leads_room slot m g.moves c.rows c.boxes d sound g.leads (λ i. refl) in
    let named = gain_of_own (λ s. 0) (λ x. 0) (move_room slot m) (room_free slot m) (λ x s so may_so. omega arith) g.moves in
    let own_are = ap (sum_by (move_room slot m)) g.own_are in
    let slots = all_same slot (slots_of c.rows) m c.rows sound (λ i there. (leads_stay g.moves c.rows c.boxes d i g.leads there).slot) in
    omega (arith, all, named, own_are, slots)

-- ---- one event
taken_room : {N S : Type 0} (c : Control) (did : Did N S) → Fits c did → (m : ℕ) → length ((having_taken did c).boxes m) + took_from did m ≡ length (c.boxes m)
taken_room c (DidAsk req reply h) fits m = omega arith
taken_room c (Delivered slot letter h) fits m =
    elim (cases_eq m slot.0) [
      | inl at ↦
          let here = ap (λ (k : ℕ). length (with_value slot.0 (behind_first (c.boxes slot.0)) c.boxes k)) at in
          let value = ap length (value_here slot.0 (behind_first (c.boxes slot.0)) c.boxes) in
          let rest = ap (λ (q : List Letter). length (behind_first q)) fits.may.oldest in
          let was = ap (λ (q : List Letter). length q) fits.may.oldest in
          let all = ap (λ (k : ℕ). length (c.boxes k)) at in
          let on = ap {B = ℕ} (λ (b : Bool). cond b 1 0) (eq-eqb slot.0 m (sym at)) in
          omega (arith, here, value, rest, was, all, on)
      | inr other ↦
          let value = ap length (value_else slot.0 m (behind_first (c.boxes slot.0)) c.boxes other) in
          let off = ap {B = ℕ} (λ (b : Bool). cond b 1 0) (ne_eqb slot.0 m (λ e. other (sym e))) in
          omega (arith, value, off)
    ]
taken_room c (Delimited e h) fits m = omega arith

event_room : {N S : Type 0} (c : Control) (did : Did N S) → Kept c → Fits c did → (m : ℕ) →
    (length ((after did c).boxes m) + to_come (after did c) m) + took_from did m ≤ (length (c.boxes m) + to_come c m) + reserved c did m
event_room c did kept fits m =
    let g = event_goes c did kept fits in
    let slot = slots_of (after did c).rows in
    let same = taken_rows did c in
    let sound = subst Sound (sym same) (sound_of c kept) in
    let all = leads_room slot m g.moves (having_taken did c).rows (having_taken did c).boxes (after did c) sound g.leads (λ i. refl) in
    let own = gain_of_own (λ s. 0) (λ x. 0) (move_room slot m) (room_free slot m) (λ x s sound may_so. omega arith) g.moves in
    let own_are = ap (sum_by (move_room slot m)) g.own_are in
    let rows = ap (all_to_come slot m) same in
    let slots = all_same slot (slots_of c.rows) m c.rows (sound_of c kept)
    (λ i there. (leads_stay g.moves (having_taken did c).rows (having_taken did c).boxes (after did c) i g.leads (subst (λ (r : Rows). i < length r.objects) (sym same) there)).slot ∙ ap (λ (r : Rows). (obj r i).slot) same) in
    let mail = taken_room c did fits m in
    omega (arith, all, own, own_are, rows, slots, mail)

pub room_is_kept : (N S : Type 0) → RoomIsKept N S
room_is_kept N S workers items run did fits m = event_room (after_all items (begun workers)) did (runs_are_kept N S workers items run) fits m

-- moves of one event that make nothing leave the room as it was kept
pub moves_room : (c d : Control) → Kept c → MovesTo [] c d → (m : ℕ) → length (d.boxes m) + to_come d m ≤ length (c.boxes m) + to_come c m
moves_room c d kept g m =
    let slot = slots_of d.rows in
    let sound = sound_of c kept in
    let all = leads_room slot m g.moves c.rows c.boxes d sound g.leads (λ i. refl) in
    let own = gain_of_own (λ s. 0) (λ x. 0) (move_room slot m) (room_free slot m) (λ x s sound may_so. omega arith) g.moves in
    let own_are = ap (sum_by (move_room slot m)) g.own_are in
    let slots = all_same slot (slots_of c.rows) m c.rows sound (λ i there. (leads_stay g.moves c.rows c.boxes d i g.leads there).slot) in
    omega (arith, all, own, own_are, slots)
