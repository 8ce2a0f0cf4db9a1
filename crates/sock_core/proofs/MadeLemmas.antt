-- Each end that joined has halves of the pipes that were made for it, after one more call.
use Rattle.std.proofs.Common.{◌≡◌, ◌==◌, ◌&&◌, ◌∙◌, ℕ, Bool, true, false, List, [], ◌∷◌, ◌++◌, Some, length, not, refl, sym, ap, subst, arith, true≢false}
use Rattle.std.specs.Prelude.{Result, Ok, Err, IfOk}
use Rattle.std.specs.List.{list_any}
use Rattle.std.proofs.Math.Logic.{∥∥₁_elim, ∥∥₁_map}
use Rattle.zq_base.specs.declared.ids.EndId.{EndId}
use Rattle.zq_base.specs.Ends.{other_end}
use Rattle.spec_pattern.specs.PipeStep.{same_side}
use Rattle.spec_control.specs.Control.{is_end}
use Rattle.msg_pipe.specs.Known.{Known}
use Rattle.end_table.specs.declared.changes.PipeChange.{PipeChange}
use Rattle.end_table.specs.declared.table.Place.{Place}
use Rattle.end_table.specs.Places.{place_at, is_of}
use Rattle.end_table.specs.Giving.{AreGone}
use Rattle.end_table.specs.Others.{IsLess, KeepsPlaces}
use Rattle.end_table.specs.Changes.{made_last, MakesNone, MakesOnlyOf, AreMadeFor, IsMadeAt}
use Rattle.end_table.proofs.EndsLemmas.{some_place}
use Rattle.end_table.proofs.PlaceLemmas.{place_within}
use Rattle.sock_core.specs.Noted.{AreMade}
use Rattle.sock_core.proofs.FindLemmas.{one_passes}
use Rattle.sock_core.proofs.FlagLemmas.{at_more}
use Rattle.sock_core.proofs.GoneLemmas.{gone_at}

-- ---- ends of one side

and_no : (a b : Bool) → b ≡ false → (a && b) ≡ false
and_no true b off = off
and_no false b off = refl

side_across : (a b : Bool) → b ≡ a → same_side a (not b) ≡ false
side_across true b same = ap not same
side_across false true same = absurd (true≢false same)
side_across false false same = refl

side_from : (a b : Bool) → b ≡ a → same_side (not a) b ≡ false
side_from true b same = ap not same
side_from false b same = same

side_both : (a b : Bool) → same_side (not a) (not b) ≡ same_side a b
side_both true true = refl
side_both true false = refl
side_both false true = refl
side_both false false = refl

end_across : (d e : EndId) → e.a ≡ d.a → is_end d (other_end e) ≡ false
end_across d e same = and_no (d.pair.0 == e.pair.0) (same_side d.a (not e.a)) (side_across d.a e.a same)

end_from : (d e : EndId) → e.a ≡ d.a → is_end (other_end d) e ≡ false
end_from d e same = and_no (d.pair.0 == e.pair.0) (same_side (not d.a) e.a) (side_from d.a e.a same)

end_both : (d e : EndId) → is_end (other_end d) (other_end e) ≡ is_end d e
end_both d e = ap (λ (b : Bool). (d.pair.0 == e.pair.0) && b) (side_both d.a e.a)

-- an end that is not held is no other
not_held : {N I : Type 0} (e : EndId) (ps : List (Place N I)) (k : ℕ) (p : Place N I) → list_any (is_of e) ps ≡ false → place_at ps k ≡ Some p → p.held ≡ true → is_end e p.end ≡ false
not_held e ps k p none at held = by (is_end e p.end) refl
  where
    by : (b : Bool) → is_end e p.end ≡ b → b ≡ false
    by true is = absurd (true≢false (sym (one_passes (is_of e) ps k p at (ap (λ (b : Bool). b && is_end e p.end) held ∙ is)) ∙ none))
    by false is = refl

-- what is so of a result for two reasons
pub both_ok : {X E : Type 0} {P Q R : X → Type 0} (r : Result X E) → ((x : X) → P x → Q x → R x) → IfOk r P → IfOk r Q → IfOk r R
both_ok (Ok x) both p q = both x p q
both_ok (Err e) both p q = tt

module _ {S O I N : Type 0} (K : Known S O I N) (may_make : EndId → ℕ → ℕ → Type 0) where
  -- pipes that were made of a size that they may have
  pub may_be : (xs : List (PipeChange O I × S)) (e : EndId) (written read : ℕ) (writes_name reads_name : N) → may_make e written read
      → AreMadeFor K (λ d w r. (w ≡ written) × (r ≡ read)) xs e writes_name reads_name → AreMadeFor K may_make xs e writes_name reads_name
  may_be xs e written read writes_name reads_name may m = record {
    written = m.written;
    read = m.read;
    out = m.out;
    other = m.other;
    writes = m.writes;
    writes_it = m.writes_it;
    reads = m.reads;
    reads_it = m.reads_it;
    may = ∥∥₁_map m.may (λ same. subst (λ (n : ℕ). may_make e n m.read) (sym same.0) (subst (λ (n : ℕ). may_make e written n) (sym same.1) may));
  }

  -- the same end, with no pipe made for it since
  made_still : (xs ys : List (PipeChange O I × S)) (p q : Place N I) → IsLess p q → made_last p.end ys ≡ made_last p.end xs → made_last (other_end p.end) ys ≡ made_last (other_end p.end) xs → IsMadeAt K may_make xs p → IsMadeAt K may_make ys q
  made_still xs ys p q less own across m = record {
    written = m.written;
    read = m.read;
    out = m.out;
    other = m.other;
    writes = ap (λ (e : EndId). made_last e ys) less.end_is ∙ own ∙ m.writes;
    writes_it = m.writes_it ∙ sym less.written_is;
    reads = ap (λ (e : EndId). made_last (other_end e) ys) less.end_is ∙ across ∙ m.reads;
    reads_it = m.reads_it ∙ sym less.read_is;
    may = subst (λ (e : EndId). ∥ may_make e m.written m.read ∥₁) (sym less.end_is) m.may;
  }

  -- a call that made none, and at which none joined
  pub made_less : (xs ys : List (PipeChange O I × S)) (ps qs : List (Place N I)) (many : ℕ) → KeepsPlaces ps qs → length qs ≡ length ps → MakesNone xs ys → AreMade K may_make xs many ps → AreMade K may_make ys many qs
  made_less xs ys ps qs many keeps long none made = λ k q le at held.
      let p = some_place ps k (let w = place_within qs k q at in omega (arith, w, long)) in
      let less = keeps.each k p.0 q p.1 at in
      ∥∥₁_map (made k p.0 le p.1 (less.held held)) (made_still xs ys p.0 q less (none p.0.end) (none (other_end p.0.end)))

  -- none joined
  pub made_none : (xs : List (PipeChange O I × S)) (ps : List (Place N I)) → AreMade K may_make xs (length ps) ps
  made_none xs ps = λ k p le at held. let w = place_within ps k p at in absurd (omega (arith, le, w))

  -- where none is held there is none
  pub made_gone : (xs : List (PipeChange O I × S)) (ps : List (Place N I)) (many : ℕ) → AreGone ps → AreMade K may_make xs many ps
  made_gone xs ps many gone = λ k p le at held. absurd (true≢false (sym held ∙ gone_at ps k p gone at))

  -- one end more
  pub made_one : (xs : List (PipeChange O I × S)) (ps : List (Place N I)) (q : Place N I) (many : ℕ) → IsMadeAt K may_make xs q → AreMade K may_make xs many ps → AreMade K may_make xs many (ps ++ q ∷ [])
  made_one xs ps q many new made = λ k r le at held. at_more ps q r k at (λ e same. ∣ subst (IsMadeAt K may_make xs) (sym same) new ∣₁) (λ was. made k r le was held)

  -- the pipes of a pair were made, of whose ends none is held
  pub made_else : ((d e : EndId) (v w r s : ℕ) → may_make d v w → may_make e r s → d.a ≡ e.a) → (e : EndId) (written read : ℕ) → may_make e written read
      → (xs ys : List (PipeChange O I × S)) (ps : List (Place N I)) (many : ℕ) → MakesOnlyOf e xs ys → list_any (is_of e) ps ≡ false → AreMade K may_make xs many ps → AreMade K may_make ys many ps
  made_else one_side e written read may xs ys ps many only none made = λ k p le at held.
      ∥∥₁_elim (made k p le at held) squash₁ (λ m. ∥∥₁_map m.may (λ own. still p m (not_held e ps k p none at held) (one_side p.end e m.written m.read written read own may)))
    where
      still : (p : Place N I) → IsMadeAt K may_make xs p → is_end e p.end ≡ false → p.end.a ≡ e.a → IsMadeAt K may_make ys p
      still p m other side =
          made_still xs ys p p (record { end_is = refl; written_is = refl; read_is = refl; held = λ h. h; writes = λ w. w })
          (only p.end other (end_from e p.end side)) (only (other_end p.end) (end_across e p.end side) (end_both e p.end ∙ other)) m
