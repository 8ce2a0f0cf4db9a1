-- What an event leaves of the row of an object.
use Rattle.std.specs.Prelude.{◌≡◌, ◌<◌, ◌||◌, ℕ, Bool, true, false, cond, List, [], ◌∷◌, filter, length, refl}
use Rattle.std.specs.List.{list_any}
use Rattle.std.proofs.Common.{arith, sym, ap, ◌∙◌, subst, length-set}
use Rattle.spec_control.specs.declared.letter.Letter.{Letter}
use Rattle.spec_control.specs.declared.stage.Stage.TheVariants.{Finished}
use Rattle.spec_control.specs.declared.entry.Did.{Did}
use Rattle.spec_control.specs.Row.{Row, nobody, LinkEvent, OwnComes, PlugComes, IsTold, TermComes, AsksOver, RequestComes, ReapComes, AckComes, RootAsked, StopPut, StopComes, AsksForLink, AsksForLinger, link_may, link_after}
use Rattle.spec_control.specs.Rows.{Rows, obj}
use Rattle.spec_control.specs.Control.{Control, next_object}
use Rattle.spec_control.specs.After.{after}
use Rattle.spec_control.specs.ControlRun.{Fits}
use Rattle.control_laws.proofs.ListLemmas.{never, is_here, is_elsewhere, written, is_old, is_new, pushed}
use Rattle.control_laws.specs.Kept.{Kept}
use Rattle.control_laws.specs.Move.{Move, LinkMoves, EndMoves, ObjectEnds, ObjectMade, PairDrawn, LetterPut, move_rows, move_boxes, is_named, MayMove, Leads}
use Rattle.control_laws.specs.OwnMoves.{own_moves, having_taken}
use Rattle.control_laws.proofs.EventGoLemmas.{event_goes}
use Rattle.control_laws.proofs.SoundLemmas.{link_there, ending_there, move_stays}
use Rattle.control_laws.proofs.WeighLemmas.{taken_rows}

pub none_first : (a b : Bool) → (a || b) ≡ false → a ≡ false
none_first true b h = h
none_first false b h = refl

pub none_rest : (a b : Bool) → (a || b) ≡ false → b ≡ false
none_rest true b h = absurd (never (sym h))
none_rest false b h = h

-- what only named moves do, the moves of its own tell
pub any_named : (f : Move → Bool) → ((m : Move) → is_named m ≡ false → f m ≡ false) → (ms : List Move) → list_any f (filter is_named ms) ≡ list_any f ms
any_named f free [] = refl
any_named f free (m ∷ ms) = by (is_named m) refl (any_named f free ms)
  where
    by : (x : Bool) → is_named m ≡ x → list_any f (filter is_named ms) ≡ list_any f ms → list_any f (cond x (m ∷ filter is_named ms) (filter is_named ms)) ≡ (f m || list_any f ms)
    by true e rest = ap (λ (b : Bool). f m || b) rest
    by false e rest = rest ∙ ap (λ (b : Bool). b || list_any f ms) (sym (free m e))

-- what is read off a row, but for these moves
module _ {X : Type 0} (f : Row → X) (touches : ℕ → Move → Bool)
    (linked : (event : LinkEvent) (o : Row) (i : ℕ) → link_may event o ≡ true → touches i (LinkMoves i event) ≡ false → f (link_after event o) ≡ f o)
    (finished : (o : Row) → f (record o { stage = Finished }) ≡ f o)
    (named : (i : ℕ) (m : Move) → is_named m ≡ false → touches i m ≡ false) where
  move_row : (m : Move) (s : Rows) (i : ℕ) → MayMove m s → touches i m ≡ false → i < length s.objects → f (obj (move_rows m s) i) ≡ f (obj s i)
  move_row (LinkMoves j event) s i may_so free there =
      elim (written s.objects (link_after event (obj s j)) nobody j i (link_there s j event may_so)) [
        | is_here here same ↦
            ap f same ∙ linked event (obj s j) j may_so (subst (λ (n : ℕ). touches n (LinkMoves j event) ≡ false) here free) ∙ ap (λ (n : ℕ). f (obj s n)) (sym here)
        | is_elsewhere same ↦ ap f same
      ]
  move_row (EndMoves e event) s i may_so free there = refl
  move_row (ObjectEnds j) s i may_so free there =
      elim (written s.objects (record (obj s j) { stage = Finished }) nobody j i (ending_there s j may_so)) [
        | is_here here same ↦ ap f same ∙ finished (obj s j) ∙ ap (λ (n : ℕ). f (obj s n)) (sym here)
        | is_elsewhere same ↦ ap f same
      ]
  move_row (ObjectMade row) s i may_so free there =
      elim (pushed s.objects row nobody i) [
        | is_old e ↦ ap f e
        | is_new at e was ↦ absurd (omega (arith, at, there))
      ]
  move_row (PairDrawn a b) s i may_so free there = refl
  move_row (LetterPut to word) s i may_so free there = refl

  lead_row : (ms : List Move) (s : Rows) (boxes : ℕ → List Letter) (d : Control) (i : ℕ) → Leads ms s boxes d → list_any (touches i) ms ≡ false → i < length s.objects → f (obj d.rows i) ≡ f (obj s i)
  lead_row [] s boxes d i h free there = ap (λ (r : Rows). f (obj r i)) h.0
  lead_row (m ∷ ms) s boxes d i h free there =
      lead_row ms (move_rows m s) (move_boxes m s boxes) d i h.1 (none_rest (touches i m) _ free) (move_stays m s i h.0 there).there
      ∙ move_row m s i h.0 (none_first (touches i m) _ free) there

  -- an event that makes none of these moves of its own leaves it
  pub event_row : {N S : Type 0} (c : Control) (did : Did N S) → Kept c → Fits c did → (i : ℕ) → i < next_object c → list_any (touches i) (own_moves c did) ≡ false → f (obj (after did c).rows i) ≡ f (obj c.rows i)
  event_row c did kept fits i there free =
      let g = event_goes c did kept fits in
      let none = sym (any_named (touches i) (named i) g.moves) ∙ ap (list_any (touches i)) g.own_are ∙ free in
      let same = taken_rows did c in
      lead_row g.moves (having_taken did c).rows (having_taken did c).boxes (after did c) i g.leads none (subst (λ (r : Rows). i < length r.objects) (sym same) there)
      ∙ ap (λ (r : Rows). f (obj r i)) same

-- ---- what no move changes, and how many objects there are
pub none_touches : (ms : List Move) → list_any (λ (m : Move). false) ms ≡ false
none_touches [] = refl
none_touches (m ∷ ms) = none_touches ms

pub same_kind : (event : LinkEvent) (o : Row) → (link_after event o).kind ≡ o.kind
same_kind OwnComes o = refl
same_kind PlugComes o = refl
same_kind IsTold o = refl
same_kind TermComes o = refl
same_kind AsksOver o = refl
same_kind RequestComes o = refl
same_kind ReapComes o = refl
same_kind AckComes o = refl
same_kind RootAsked o = refl
same_kind StopPut o = refl
same_kind StopComes o = refl
same_kind AsksForLink o = refl
same_kind AsksForLinger o = refl

same_options : (event : LinkEvent) (o : Row) → (link_after event o).options ≡ o.options
same_options OwnComes o = refl
same_options PlugComes o = refl
same_options IsTold o = refl
same_options TermComes o = refl
same_options AsksOver o = refl
same_options RequestComes o = refl
same_options ReapComes o = refl
same_options AckComes o = refl
same_options RootAsked o = refl
same_options StopPut o = refl
same_options StopComes o = refl
same_options AsksForLink o = refl
same_options AsksForLinger o = refl

-- an object keeps its kind and its options
pub record KeepsMaking (old new : Row) : Type 0 where
  pub kind : new.kind ≡ old.kind
  pub options : new.options ≡ old.options

pub event_keeps : {N S : Type 0} (c : Control) (did : Did N S) → Kept c → Fits c did → (i : ℕ) → i < next_object c → KeepsMaking (obj c.rows i) (obj (after did c).rows i)
event_keeps c did kept fits i there = record {
  kind = event_row (λ (o : Row). o.kind) (λ (i : ℕ) (m : Move). false) (λ event o i may_so free. same_kind event o) (λ o. refl) (λ i m free. refl) c did kept fits i there (none_touches (own_moves c did));
  options = event_row (λ (o : Row). o.options) (λ (i : ℕ) (m : Move). false) (λ event o i may_so free. same_options event o) (λ o. refl) (λ i m free. refl) c did kept fits i there (none_touches (own_moves c did));
}

-- an object is made in a move
abbrev pub makes_object : Move → Bool
makes_object (LinkMoves j event) = false
makes_object (EndMoves e event) = false
makes_object (ObjectEnds j) = false
makes_object (ObjectMade row) = true
makes_object (PairDrawn a b) = false
makes_object (LetterPut to word) = false

count_lead : (ms : List Move) (s : Rows) (boxes : ℕ → List Letter) (d : Control) → Leads ms s boxes d → list_any makes_object ms ≡ false → length d.rows.objects ≡ length s.objects
count_lead [] s boxes d h free = ap (λ (r : Rows). length r.objects) h.0
count_lead (m ∷ ms) s boxes d h free =
    count_lead ms (move_rows m s) (move_boxes m s boxes) d h.1 (none_rest (makes_object m) _ free) ∙ one m (none_first (makes_object m) _ free)
  where
    one : (m : Move) → makes_object m ≡ false → length (move_rows m s).objects ≡ length s.objects
    one (LinkMoves j event) none = length-set s.objects j (link_after event (obj s j))
    one (EndMoves e event) none = refl
    one (ObjectEnds j) none = length-set s.objects j (record (obj s j) { stage = Finished })
    one (ObjectMade row) none = absurd (never (sym none))
    one (PairDrawn a b) none = refl
    one (LetterPut to word) none = refl

made_named : (m : Move) → is_named m ≡ false → makes_object m ≡ false
made_named (LinkMoves j event) h = refl
made_named (EndMoves e event) h = refl
made_named (ObjectEnds j) h = refl
made_named (ObjectMade row) h = absurd (never (sym h))
made_named (PairDrawn a b) h = refl
made_named (LetterPut to word) h = refl

-- an event that makes none leaves as many
pub event_count : {N S : Type 0} (c : Control) (did : Did N S) → Kept c → Fits c did → list_any makes_object (own_moves c did) ≡ false → next_object (after did c) ≡ next_object c
event_count c did kept fits free =
    let g = event_goes c did kept fits in
    let none = sym (any_named makes_object made_named g.moves) ∙ ap (list_any makes_object) g.own_are ∙ free in
    count_lead g.moves (having_taken did c).rows (having_taken did c).boxes (after did c) g.leads none ∙ ap (λ (r : Rows). length r.objects) (taken_rows did c)
