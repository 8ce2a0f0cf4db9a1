-- The rows with what moves make, and nothing else: each object there is of the kind that it was made of.
use Rattle.std.specs.Prelude.{◌≡◌, ◌<◌, ◌+◌, ℕ, Bool, true, false, not, [], ◌∷◌, ◌++◌, Option, length, refl}
use Rattle.std.proofs.Common.{sym, ap, ◌∙◌, length-set, length-append}
use Rattle.std.proofs.lemmas.List.{get_or_push}
use Rattle.zq_base.specs.declared.ids.EndId.{EndId}
use Rattle.spec_control.specs.declared.object.ObjKind.{ObjKind}
use Rattle.spec_control.specs.declared.stage.Stage.TheVariants.{Finished}
use Rattle.spec_control.specs.Place.{Unmade}
use Rattle.spec_control.specs.PairPhase.{PairEvent, may}
use Rattle.spec_control.specs.Row.{Row, nobody, LinkEvent, OwnComes, PlugComes, IsTold, TermComes, AsksOver, RequestComes, ReapComes, AckComes, RootAsked, StopPut, StopComes, AsksForLink, AsksForLinger, link_after}
use Rattle.spec_control.specs.Rows.{PairRow, Rows, end_half, end_owner, no_pair, obj, pair, pair_after, with_object}
use Rattle.control_laws.specs.Move.{Move, LinkMoves, EndMoves, ObjectEnds, ObjectMade, PairDrawn, LetterPut, move_rows, is_named, MayMove}
use Rattle.control_laws.proofs.ListLemmas.{never, is_here, is_elsewhere, written, is_old, is_new, pushed}
use Rattle.control_laws.proofs.StepLemmas.{after_owner}
use Rattle.control_laws.proofs.SoundLemmas.{ending_there, link_there}
use Rattle.control_laws.proofs.RowLemmas.{pair_there}

-- what a row says of its ends
abbrev pub ShapeOf : Type 0
ShapeOf = ObjKind × (Option ℕ × Bool)

abbrev pub shape : Row → ShapeOf
shape o = (o.kind, (o.pair, o.accepted))

pub same_shape : (event : LinkEvent) (o : Row) → shape (link_after event o) ≡ shape o
same_shape OwnComes o = refl
same_shape PlugComes o = refl
same_shape IsTold o = refl
same_shape TermComes o = refl
same_shape AsksOver o = refl
same_shape RequestComes o = refl
same_shape ReapComes o = refl
same_shape AckComes o = refl
same_shape RootAsked o = refl
same_shape StopPut o = refl
same_shape StopComes o = refl
same_shape AsksForLink o = refl
same_shape AsksForLinger o = refl

-- ---- the rows with what moves make, and nothing else
pub record SameShapes (r s : Rows) : Type 0 where
  pub objects : length s.objects ≡ length r.objects
  pub shapes : (i : ℕ) → shape (obj s i) ≡ shape (obj r i)
  pub pairs : length s.pairs ≡ length r.pairs

abbrev pub grown : Move → Rows → Rows
grown (LinkMoves i event) r = r
grown (EndMoves e event) r = r
grown (ObjectEnds i) r = r
grown (ObjectMade row) r = record r { objects = r.objects ++ row ∷ [] }
grown (PairDrawn a b) r = record r { pairs = r.pairs ++ record { a_owner = a; b_owner = b; a = Unmade; b = Unmade } ∷ [] }
grown (LetterPut to word) r = r

pub written_shape : (s : Rows) (j : ℕ) (n : Row) → j < length s.objects → shape n ≡ shape (obj s j) → (i : ℕ) → shape (obj (with_object j n s) i) ≡ shape (obj s i)
written_shape s j n there same i =
    elim (written s.objects n nobody j i there) [
      | is_here here e ↦ ap shape e ∙ same ∙ ap (λ (k : ℕ). shape (obj s k)) (sym here)
      | is_elsewhere e ↦ ap shape e
    ]

pub written_owner : (s : Rows) (e : EndId) (event : PairEvent) → may event (end_half (pair s e.pair.0) e.a) (end_half (pair s e.pair.0) (not e.a)) ≡ true → (k : ℕ) (a : Bool) →
    end_owner (pair (move_rows (EndMoves e event) s) k) a ≡ end_owner (pair s k) a
written_owner s e event comes k a =
    elim (written s.pairs (pair_after event e.a (pair s e.pair.0)) no_pair e.pair.0 k (pair_there s e.pair.0 e.a event comes)) [
      | is_here here same ↦ ap (λ (p : PairRow). end_owner p a) same ∙ after_owner event e.a a (pair s e.pair.0) ∙ ap (λ (n : ℕ). end_owner (pair s n) a) (sym here)
      | is_elsewhere same ↦ ap (λ (p : PairRow). end_owner p a) same
    ]

pub same_grown : (m : Move) (r s : Rows) → MayMove m s → SameShapes r s → SameShapes (grown m r) (move_rows m s)
same_grown (LinkMoves j event) r s may_so same = record {
  objects = length-set s.objects j (link_after event (obj s j)) ∙ same.objects;
  shapes = λ i. written_shape s j (link_after event (obj s j)) (link_there s j event may_so) (same_shape event (obj s j)) i ∙ same.shapes i;
  pairs = same.pairs;
}
same_grown (EndMoves e event) r s may_so same = record { objects = same.objects; shapes = same.shapes; pairs = length-set s.pairs e.pair.0 (pair_after event e.a (pair s e.pair.0)) ∙ same.pairs }
same_grown (ObjectEnds j) r s may_so same = record {
  objects = length-set s.objects j (record (obj s j) { stage = Finished }) ∙ same.objects;
  shapes = λ i. written_shape s j (record (obj s j) { stage = Finished }) (ending_there s j may_so) refl i ∙ same.shapes i;
  pairs = same.pairs;
}
same_grown (ObjectMade row) r s may_so same = record {
  objects = length-append s.objects (row ∷ []) ∙ ap (λ (n : ℕ). n + 1) same.objects ∙ sym (length-append r.objects (row ∷ []));
  shapes = shapes;
  pairs = same.pairs;
}
  where
    shapes : (i : ℕ) → shape (obj (move_rows (ObjectMade row) s) i) ≡ shape (obj (grown (ObjectMade row) r) i)
    shapes i =
        elim (pushed s.objects row nobody i) [
          | is_old e ↦ elim (pushed r.objects row nobody i) [
            | is_old f ↦ ap shape e ∙ same.shapes i ∙ ap shape (sym f)
            | is_new at f was ↦ ap shape (get_or_push s.objects row nobody i (same.objects ∙ sym at)) ∙ ap shape (sym f)
          ]
          | is_new at e was ↦ ap shape e ∙ ap shape (sym (get_or_push r.objects row nobody i (sym same.objects ∙ sym at)))
        ]
same_grown (PairDrawn a b) r s may_so same = record {
  objects = same.objects;
  shapes = same.shapes;
  pairs = length-append s.pairs (record { a_owner = a; b_owner = b; a = Unmade; b = Unmade } ∷ []) ∙ ap (λ (n : ℕ). n + 1) same.pairs
      ∙ sym (length-append r.pairs (record { a_owner = a; b_owner = b; a = Unmade; b = Unmade } ∷ []));
}
same_grown (LetterPut to word) r s may_so same = same

pub ungrown : (r : Rows) (m : Move) → is_named m ≡ false → r ≡ grown m r
ungrown r (LinkMoves i event) h = refl
ungrown r (EndMoves e event) h = refl
ungrown r (ObjectEnds i) h = refl
ungrown r (ObjectMade row) h = absurd (never (sym h))
ungrown r (PairDrawn a b) h = absurd (never (sym h))
ungrown r (LetterPut to word) h = refl
