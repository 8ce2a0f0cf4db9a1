-- The ends on their way to an object, through the moves of an event.
use Rattle.std.specs.Prelude.{◌≡◌, ◌≤◌, ◌==◌, ◌∷◌, ◌++◌, [], ℕ, Bool, true, false, cond, List, Some, None, sum_by, length, refl}
use Rattle.std.proofs.Common.{arith, sym, ap, ◌∙◌, inl, inr}
use Rattle.std.proofs.lemmas.Bool.{cases_lt}
use Rattle.std.proofs.lemmas.List.{set_past}
use Rattle.std.proofs.lemmas.List.Sums.{sum_by-cons, sum_by-set, sum_by_push}
use Rattle.zq_base.specs.declared.ids.EndId.{EndId}
use Rattle.spec_control.specs.declared.entry.Did.{Did}
use Rattle.spec_control.specs.declared.letter.Letter.{Letter}
use Rattle.spec_control.specs.declared.letter.Word.{Word}
use Rattle.spec_control.specs.declared.letter.Word.TheVariants.{Own, Plug, TermReq, Term, TermAck, PipeBind, PipeTerm, PipeTermAck, Stop, Reap}
use Rattle.spec_control.specs.Place.{Place, Unmade, Away, At}
use Rattle.spec_control.specs.PairPhase.{PairEvent, Opens, BindCame, Happens, place_after, other_after}
use Rattle.spec_control.specs.Rows.{Rows, PairRow, no_pair, pair, pair_after, of_ends, bind_waits}
use Rattle.spec_control.specs.Control.{Control}
use Rattle.spec_control.specs.After.{after}
use Rattle.spec_control.specs.ControlRun.{Fits}
use Rattle.control_laws.proofs.ListLemmas.{never, pushed, is_old, is_new}
use Rattle.control_laws.specs.Kept.{Kept}
use Rattle.control_laws.specs.Move.{Move, LinkMoves, EndMoves, ObjectEnds, ObjectMade, PairDrawn, LetterPut, move_rows, move_boxes, is_named, Leads, MovesTo}
use Rattle.control_laws.specs.OwnMoves.{own_moves, word_moves, having_taken}
use Rattle.control_laws.proofs.WeighLemmas.{gain_of_own, taken_rows}
use Rattle.control_laws.proofs.EventGoLemmas.{event_goes}
use Rattle.ctl_state.specs.declared.belongings.Belongings.{Belongings}
use Rattle.ctl_state.specs.Listed.{Listed}
use Rattle.ctl_state.specs.Lists.{no_belongings}
use Rattle.ctl_plane.specs.Carried.{BindsFit}
use Rattle.ctl_moves.specs.Naming.{SameEndLists}

-- a bind is put where a pair is made, and nowhere else
abbrev pub bind_put : PairEvent → ℕ
bind_put Opens = 1
bind_put BindCame = 0
bind_put (Happens event) = 0

abbrev pub binds_put : Move → ℕ
binds_put (LinkMoves i event) = 0
binds_put (EndMoves e event) = bind_put event
binds_put (ObjectEnds i) = 0
binds_put (ObjectMade row) = 0
binds_put (PairDrawn a b) = 0
binds_put (LetterPut to word) = 0

binds_free : (m : Move) → is_named m ≡ false → binds_put m ≡ 0
binds_free (LinkMoves i event) h = refl
binds_free (EndMoves e Opens) h = absurd (never (sym h))
binds_free (EndMoves e BindCame) h = refl
binds_free (EndMoves e (Happens event)) h = refl
binds_free (ObjectEnds i) h = refl
binds_free (ObjectMade row) h = refl
binds_free (PairDrawn a b) h = refl
binds_free (LetterPut to word) h = refl

pub word_binds : (at : ℕ) (word : Word) → sum_by binds_put (word_moves at word) ≡ 0
word_binds at (Own child) = refl
word_binds at (Plug None) = refl
word_binds at (Plug (Some e)) = refl
word_binds at (TermReq child) = refl
word_binds at Term = refl
word_binds at (TermAck child) = refl
word_binds at (PipeBind e peer) = refl
word_binds at (PipeTerm e) = refl
word_binds at (PipeTermAck e) = refl
word_binds at Stop = refl
word_binds at (Reap socket) = refl

mine_less : (event : PairEvent) (place : Place) → bind_put event ≡ 0 → bind_waits (place_after event place) ≤ bind_waits place
mine_less Opens place h = absurd (one_zero h)
  where
    one_zero : ◌≡◌ {A = ℕ} 1 0 → ⊥
    one_zero f = omega (arith, f)
mine_less BindCame Unmade h = omega arith
mine_less BindCame Away h = omega arith
mine_less BindCame (At state) h = omega arith
mine_less (Happens event) Unmade h = omega arith
mine_less (Happens event) Away h = omega arith
mine_less (Happens event) (At state) h = omega arith

other_less : (event : PairEvent) (place : Place) → bind_put event ≡ 0 → bind_waits (other_after event place) ≤ bind_waits place
other_less Opens place h = absurd (one_zero h)
  where
    one_zero : ◌≡◌ {A = ℕ} 1 0 → ⊥
    one_zero f = omega (arith, f)
other_less BindCame place h = omega arith
other_less (Happens event) place h = omega arith

where_less : (b : Bool) (m n : ℕ) → m ≤ n → cond b m 0 ≤ cond b n 0
where_less true m n h = h
where_less false m n h = omega arith

pair_less : (event : PairEvent) (a : Bool) (p : PairRow) (i : ℕ) → bind_put event ≡ 0 → of_ends bind_waits i (pair_after event a p) ≤ of_ends bind_waits i p
pair_less event true p i none =
    let one = where_less (p.a_owner == i) (bind_waits (place_after event p.a)) (bind_waits p.a) (mine_less event p.a none) in
    let two = where_less (p.b_owner == i) (bind_waits (other_after event p.b)) (bind_waits p.b) (other_less event p.b none) in
    omega (arith, one, two)
pair_less event false p i none =
    let one = where_less (p.a_owner == i) (bind_waits (other_after event p.a)) (bind_waits p.a) (other_less event p.a none) in
    let two = where_less (p.b_owner == i) (bind_waits (place_after event p.b)) (bind_waits p.b) (mine_less event p.b none) in
    omega (arith, one, two)

abbrev binds_of : ℕ → Rows → ℕ
binds_of i s = sum_by (of_ends bind_waits i) s.pairs

move_less : (i : ℕ) (m : Move) (s : Rows) → binds_put m ≡ 0 → binds_of i (move_rows m s) ≤ binds_of i s
move_less i (LinkMoves j event) s none = omega arith
move_less i (EndMoves e event) s none =
    elim (cases_lt e.pair.0 (length s.pairs)) [
      | inl within ↦
          let sums = sum_by-set (of_ends bind_waits i) s.pairs e.pair.0 (pair_after event e.a (pair s e.pair.0)) no_pair within in
          let less = pair_less event e.a (pair s e.pair.0) i none in
          omega (arith, sums, less)
      | inr past ↦ let same = ap (sum_by (of_ends bind_waits i)) (set_past s.pairs e.pair.0 (pair_after event e.a (pair s e.pair.0)) past) in omega (arith, same)
    ]
move_less i (ObjectEnds j) s none = omega arith
move_less i (ObjectMade row) s none = omega arith
move_less i (PairDrawn a b) s none =
    let pushed = sum_by_push (of_ends bind_waits i) s.pairs (record { a_owner = a; b_owner = b; a = Unmade; b = Unmade }) in
    let one = no_weight (a == i) in
    let two = no_weight (b == i) in
    omega (arith, pushed, one, two)
  where
    no_weight : (x : Bool) → ◌≡◌ {A = ℕ} (cond x 0 0) 0
    no_weight true = refl
    no_weight false = refl
move_less i (LetterPut to word) s none = omega arith

binds_lead : (i : ℕ) (ms : List Move) (s : Rows) (boxes : ℕ → List Letter) (d : Control) → Leads ms s boxes d → sum_by binds_put ms ≡ 0 → binds_of i d.rows ≤ binds_of i s
binds_lead i [] s boxes d h none = let same = ap (binds_of i) h.0 in omega (arith, same)
binds_lead i (m ∷ ms) s boxes d h none =
    let first = sum_by-cons binds_put m ms in
    let one = move_less i m s (omega (arith, none, first)) in
    let rest = binds_lead i ms (move_rows m s) (move_boxes m s boxes) d h.1 (omega (arith, none, first)) in
    omega (arith, one, rest)

-- moves that follow from others put none
pub binds_go : (c d : Control) → MovesTo [] c d → (i : ℕ) → sum_by (of_ends bind_waits i) d.rows.pairs ≤ sum_by (of_ends bind_waits i) c.rows.pairs
binds_go c d go i =
    let of_all = gain_of_own (λ s. 0) (λ m. 0) binds_put binds_free (λ m s sound may. omega arith) go.moves in
    let own = ap (sum_by binds_put) go.own_are in
    binds_lead i go.moves c.rows c.boxes d go.leads (omega (arith, of_all, own))

-- an event that makes no pair puts no bind
pub binds_after : {N S : Type 0} (c : Control) (did : Did N S) → Kept c → Fits c did → sum_by binds_put (own_moves c did) ≡ 0 → (i : ℕ) → sum_by (of_ends bind_waits i) (after did c).rows.pairs ≤ sum_by (of_ends bind_waits i) c.rows.pairs
binds_after c did kept fits none i =
    let e = event_goes c did kept fits in
    let of_all = gain_of_own (λ s. 0) (λ m. 0) binds_put binds_free (λ m s sound may. omega arith) e.moves in
    let own = ap (sum_by binds_put) e.own_are in
    let led = binds_lead i e.moves (having_taken did c).rows (having_taken did c).boxes (after did c) e.leads (omega (arith, of_all, own, none)) in
    let taken = ap (binds_of i) (taken_rows did c) in
    omega (arith, led, taken)

pub binds_fit : {N S : Type 0} (c : Control) (did : Did N S) → Kept c → Fits c did → sum_by binds_put (own_moves c did) ≡ 0 → (old new : List Belongings) → SameEndLists old new → BindsFit c old → BindsFit (after did c) new
binds_fit c did kept fits none old new same fit i =
    let less = binds_after c did kept fits none i in
    let most = fit i in
    let spare = ap (λ (l : Listed EndId). l.spare) (same i) in
    omega (arith, less, most, spare)

-- an object more, to which nothing belongs
pub made_aside : (lists : List Belongings) → SameEndLists lists (lists ++ no_belongings ∷ [])
made_aside lists j =
    elim (pushed lists no_belongings no_belongings j) [
      | is_old same ↦ ap (λ (b : Belongings). b.ends) same
      | is_new at now was ↦ ap (λ (b : Belongings). b.ends) (now ∙ sym was)
    ]
