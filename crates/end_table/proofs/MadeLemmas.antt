-- The pipes that were made, as the changes tell them.
use Rattle.std.proofs.Common.{◌≡◌, ◌∙◌, ◌&&◌, ℕ, Bool, true, false, List, [], ◌∷◌, ◌++◌, Option, Some, None, not, refl, sym, ap, subst, if◌then◌else◌}
use Rattle.std.proofs.lemmas.Bool.{eq-eqb}
use Rattle.std.proofs.lemmas.List.{append_assoc}
use Rattle.std.specs.Option.{option_or}
use Rattle.zq_base.specs.declared.ids.EndId.{EndId}
use Rattle.zq_base.specs.Ends.{other_end}
use Rattle.zq_base.specs.declared.log.Log.{Log}
use Rattle.spec_control.specs.Control.{is_end}
use Rattle.msg_pipe.specs.Known.{Known, IsThere}
use Rattle.end_table.specs.declared.changes.PipeChange.{PipeChange}
use Rattle.end_table.specs.declared.changes.PipeChange.TheVariants.{Kept, Made, Sealed, SealedAgain, Parted, Settled}
use Rattle.end_table.specs.Changes.{made_with, made_by, made_last, MakesFor, MakesOnlyFor, MakesOnlyOf, MakesNone, AreMakings, AddsMakings, MadeWith, AreMadeFor, DoesChanges}
use Rattle.end_table.specs.declared.table.Place.{Place}
use Rattle.end_table.proofs.AttachLemmas.{end_self}

or_none : {A : Type 0} (o : Option A) → option_or o None ≡ o
or_none None = refl
or_none (Some x) = refl

or_on : {A : Type 0} (a b c : Option A) → option_or (option_or a b) c ≡ option_or a (option_or b c)
or_on None b c = refl
or_on (Some x) b c = refl

-- an end is not the other
pub other_not : (e : EndId) → is_end (other_end e) e ≡ false
other_not e = by e.a
  where
    by : (b : Bool) → is_end (record { pair = e.pair; a = not b }) (record { pair = e.pair; a = b }) ≡ false
    by true = ap (λ (x : Bool). x && false) (eq-eqb e.pair.0 e.pair.0 refl)
    by false = ap (λ (x : Bool). x && false) (eq-eqb e.pair.0 e.pair.0 refl)

module _ {O I S : Type 0} where
  made_on : (e : EndId) (xs ys : List (PipeChange O I × S)) → made_last e (xs ++ ys) ≡ option_or (made_last e ys) (made_last e xs)
  made_on e [] ys = sym (or_none (made_last e ys))
  made_on e (x ∷ xs) ys = ap (λ (o : Option (ℕ × O)). option_or o (made_by e x.0)) (made_on e xs ys) ∙ or_on (made_last e ys) (made_last e xs) (made_by e x.0)

  module _ (d : PipeChange O I) (xs ys : List (PipeChange O I × S)) (new : S) (noted : ys ≡ xs ++ (d, new) ∷ []) where
    made_more : (e : EndId) → made_last e ys ≡ option_or (made_by e d) (made_last e xs)
    made_more e = ap (made_last e) noted ∙ made_on e xs ((d, new) ∷ [])

    -- a change that made none
    pub none_made : ((e : EndId) → made_by e d ≡ None) → MakesNone xs ys
    none_made none = λ e. made_more e ∙ ap (λ (o : Option (ℕ × O)). option_or o (made_last e xs)) (none e)

  -- a pipe was made
  pub makes_for : (f : EndId) (capacity : ℕ) (halves : Log O I) (out : O) (input : I) (xs ys : List (PipeChange O I × S)) (new : S) → ys ≡ xs ++ (Made f capacity halves, new) ∷ [] → halves.items ≡ (out, input) ∷ [] → MakesFor f capacity out xs ys
  makes_for f capacity halves out input xs ys new noted are = λ e. made_more (Made f capacity halves) xs ys new noted e ∙ by e (is_end f e)
    where
      by : (e : EndId) (b : Bool) → option_or (if b then made_with capacity halves.items else None) (made_last e xs) ≡ (if b then Some (capacity, out) else made_last e xs)
      by e true = ap (λ (l : List (O × I)). option_or (made_with capacity l) (made_last e xs)) are
      by e false = refl

  -- none was made for another end
  pub only_for : (f : EndId) (capacity : ℕ) (out : O) (xs ys : List (PipeChange O I × S)) → MakesFor f capacity out xs ys → MakesOnlyFor f xs ys
  only_for f capacity out xs ys makes = λ d other. makes d ∙ ap (λ (b : Bool). if b then Some (capacity, out) else made_last d xs) other

  pub only_one : (e : EndId) (xs ys : List (PipeChange O I × S)) → MakesOnlyFor e xs ys → MakesOnlyOf e xs ys
  only_one e xs ys only = λ d not_e not_other. only d not_e

  pub only_both : (e f : EndId) (xs ys zs : List (PipeChange O I × S)) → f ≡ other_end e → MakesOnlyFor e xs ys → MakesOnlyFor f ys zs → MakesOnlyOf e xs zs
  only_both e f xs ys zs other first last = λ d not_e not_other. last d (ap (λ (x : EndId). is_end x d) other ∙ not_other) ∙ first d not_e

-- the two pipes of a pair were made, one after the other
pub made_both : {S O I N : Type 0} (K : Known S O I N) (e f : EndId) (written read : ℕ) (out back : O) (input : I) (xs ys zs : List (PipeChange O I × S)) → f ≡ other_end e → MakesFor e written out xs ys → MakesFor f read back ys zs → K.in_name input ≡ K.out_name back
    → AreMadeFor K (λ d w r. (w ≡ written) × (r ≡ read)) zs e (K.out_name out) (K.in_name input)
made_both K e f written read out back input xs ys zs other first last one = record {
  written = written;
  read = read;
  out = out;
  other = back;
  writes = last e
      ∙ ap (λ (b : Bool). if b then Some (read, back) else made_last e ys) (ap (λ (d : EndId). is_end d e) other ∙ other_not e)
      ∙ first e ∙ ap (λ (b : Bool). if b then Some (written, out) else made_last e xs) (end_self e);
  writes_it = refl;
  reads = last (other_end e) ∙ ap (λ (b : Bool). if b then Some (read, back) else made_last (other_end e) ys) (ap (λ (d : EndId). is_end d (other_end e)) other ∙ end_self (other_end e));
  reads_it = sym one;
  may = ∣ (refl, refl) ∣₁;
}

-- ---- where no more was done than to make pipes

module _ {O I S : Type 0} where
  pub are_makings : (xs ys : List (PipeChange O I × S)) → AreMakings xs → AreMakings ys → AreMakings (xs ++ ys)
  are_makings [] ys a b = b
  are_makings (x ∷ xs) ys a b = (a.0, are_makings xs ys a.1 b)

  pub makings_on : (xs ys zs : List (PipeChange O I × S)) → AddsMakings xs ys → AddsMakings ys zs → AddsMakings xs zs
  makings_on xs ys zs a b = record {
    more = a.more ++ b.more;
    noted = b.noted ∙ ap (λ (l : List (PipeChange O I × S)). l ++ b.more) a.noted ∙ append_assoc xs a.more b.more;
    makings = are_makings a.more b.more a.makings b.makings;
  }

  pub makings_more : (xs ys : List (PipeChange O I × S)) → AddsMakings xs ys → AreMakings xs → AreMakings ys
  makings_more xs ys a m = subst AreMakings (sym a.noted) (are_makings xs a.more m a.makings)

module _ {S O I N : Type 0} (K : Known S O I N) (ps : List (Place N I)) where
  one_made : {X : Type 0} (x y : X) → Some x ≡ Some y → x ≡ y
  one_made x y e = cc

  none_so : {X : Type 0} (x : X) → None ≡ Some x → ⊥
  none_so x e = cc

  -- a pipe that was made goes by a name of none that was there before
  pub made_new : (e : EndId) (xs : List (PipeChange O I × S)) (old new : S) (y : ℕ × O) → AreMakings xs → DoesChanges K ps old xs new → made_last e xs ≡ Some y → K.exact ≡ true → IsThere K old (K.out_name y.1) → ⊥
  made_new e [] old new y are does made ex there = none_so y made
  made_new e ((Kept, s) ∷ xs) old new y are does made ex there = made_new e xs s new y are.1 does.1 (sym (or_none (made_last e xs)) ∙ made) ex (does.0.there (K.out_name y.1) there)
  made_new e ((Made d capacity halves, s) ∷ xs) old new y are does made ex there = by halves.items does.0 (made_last e xs) (is_end d e) refl made (λ m kept. made_new e xs s new y are.1 does.1 m ex kept)
    where
      by : (hs : List (O × I)) → MadeWith K capacity hs old s → (m : Option (ℕ × O)) (b : Bool) → made_last e xs ≡ m → option_or m (if b then made_with capacity hs else None) ≡ Some y → (made_last e xs ≡ Some y → IsThere K s (K.out_name y.1) → ⊥) → ⊥
      by [] makes m b em g later = absurd makes
      by (h ∷ hs) makes (Some x) b em g later = later (em ∙ g) (makes.1.there (K.out_name y.1) there)
      by (h ∷ hs) makes None true em g later = makes.0.is_new ex (subst (IsThere K old) (ap (λ (z : ℕ × O). K.out_name z.1) (sym (one_made (capacity, h.0) y g))) there)
      by (h ∷ hs) makes None false em g later = none_so y g
  made_new e ((Sealed k d half, s) ∷ xs) old new y are does made ex there = absurd are.0
  made_new e ((SealedAgain k d, s) ∷ xs) old new y are does made ex there = absurd are.0
  made_new e ((Parted k d half, s) ∷ xs) old new y are does made ex there = absurd are.0
  made_new e ((Settled k d, s) ∷ xs) old new y are does made ex there = absurd are.0
