-- Each pipe has a name of its own behind the calls of a socket, too.
use Rattle.std.specs.Prelude.{◌≡◌, ◌<◌, ◌⊎◌, ℕ, Bool, true, false, List, [], ◌∷◌, Option, Some, None, refl, if◌then◌else◌}
use Rattle.std.specs.Option.{option_or}
use Rattle.std.proofs.Common.{arith, sym, ap, ◌∙◌, subst, inl, inr}
use Rattle.zq_base.specs.declared.ids.EndId.{EndId}
use Rattle.zq_base.specs.Ends.{PipeId}
use Rattle.msg_pipe.specs.Known.{Known, IsThere, MakesPipe}
use Rattle.spec_control.specs.Control.{is_end, next_pair}
use Rattle.control_laws.proofs.AskLemmas.{same_end}
use Rattle.end_table.specs.declared.changes.PipeChange.{PipeChange}
use Rattle.end_table.specs.declared.changes.PipeChange.TheVariants.{Kept, Made, Sealed, SealedAgain, Parted, Settled}
use Rattle.end_table.specs.declared.table.Place.{Place}
use Rattle.end_table.specs.Changes.{made_with, made_by, made_last, DoesChange, DoesChanges, IsPlaced, MadeWith, PartedBy, SealedBy}
use Rattle.end_table.proofs.EndsLemmas.{some_place}
use Rattle.socket_laws.specs.Changes.{IsMade}
use Rattle.socket_laws.specs.Names.{NamesStandOn, NamesStay}

none_some : {X : Type 0} {x : X} → None ≡ Some x → ⊥
none_some e = Prim.grind arith

some_is : {X : Type 0} {x y : X} → Some x ≡ Some y → x ≡ y
some_is e = Prim.grind arith

-- ---- a pipe that was made for an end to write
module _ {O I : Type 0} where
  one_end_of : (d p q : EndId) (a b : Bool) → is_end d p ≡ a → is_end d q ≡ b → (capacity : ℕ) (hs : List (O × I)) (y z : ℕ × O) →
      (if a then made_with capacity hs else None) ≡ Some y → (if b then made_with capacity hs else None) ≡ Some z → p ≡ q
  one_end_of d p q true true x w capacity hs y z m k = sym (same_end d p x) ∙ same_end d q w
  one_end_of d p q true false x w capacity hs y z m k = absurd (none_some k)
  one_end_of d p q false b x w capacity hs y z m k = absurd (none_some m)

  -- one change makes a pipe for one end
  one_end : (p q : EndId) (y z : ℕ × O) (x : PipeChange O I) → made_by p x ≡ Some y → made_by q x ≡ Some z → p ≡ q
  one_end p q y z Kept m k = absurd (none_some m)
  one_end p q y z (Made d capacity halves) m k = one_end_of d p q (is_end d p) (is_end d q) refl refl capacity halves.items y z m k
  one_end p q y z (Sealed n d half) m k = absurd (none_some m)
  one_end p q y z (SealedAgain n d) m k = absurd (none_some m)
  one_end p q y z (Parted n d half) m k = absurd (none_some m)
  one_end p q y z (Settled n d) m k = absurd (none_some m)

module _ {S O I N : Type 0} (K : Known S O I N) (ps : List (Place N I)) where
  -- ---- a name that is given
  module _ (n : N) where
    made_stays : (capacity : ℕ) (hs : List (O × I)) (old new : S) → MadeWith K capacity hs old new → IsThere K old n → IsThere K new n
    made_stays capacity [] old new does is = absurd does
    made_stays capacity (h ∷ hs) old new does is = (let keeps = does.1 in keeps.there n is)

    sealed_stays : (k : ℕ) (e : EndId) (hs : List (O × Unit {0})) (old new : S) → SealedBy K ps k e hs old new → IsThere K old n → IsThere K new n
    sealed_stays k e [] old new does is = absurd does
    sealed_stays k e (x ∷ []) old new does is = absurd does
    sealed_stays k e (x ∷ y ∷ []) old new does is = (let keeps = does.keeps in keeps.there n is)
    sealed_stays k e (x ∷ y ∷ z ∷ hs) old new does is = absurd does

    parted_stays : (k : ℕ) (e : EndId) (hs : List (O × Unit {0})) (old new : S) → PartedBy K ps k e hs old new → IsThere K old n → IsThere K new n
    parted_stays k e [] old new does is = absurd does
    parted_stays k e (x ∷ []) old new does is = absurd does
    parted_stays k e (x ∷ y ∷ []) old new does is = (let keeps = does.keeps in keeps.there n is)
    parted_stays k e (x ∷ y ∷ z ∷ hs) old new does is = absurd does

    stays_one : (change : PipeChange O I) (old new : S) → DoesChange K ps change old new → IsThere K old n → IsThere K new n
    stays_one Kept old new does is = does.there n is
    stays_one (Made d capacity halves) old new does is = made_stays capacity halves.items old new does is
    stays_one (Sealed k e half) old new does is = sealed_stays k e half.items old new does is
    stays_one (SealedAgain k e) old new does is = subst (λ (s : S). IsThere K s n) (sym does.stays) is
    stays_one (Parted k e half) old new does is = parted_stays k e half.items old new does is
    stays_one (Settled k e) old new does is =
        let placed : IsPlaced ps k e = does.placed in
        let p = some_place ps k placed.within in
        let keeps = does.keeps p.0 p.1 in
        keeps.there n is

    -- a name is given still behind all changes
    pub stays_all : (xs : List (PipeChange O I × S)) (old new : S) → DoesChanges K ps old xs new → IsThere K old n → IsThere K new n
    stays_all [] old new does is = subst (λ (s : S). IsThere K s n) (sym does) is
    stays_all (x ∷ xs) old new does is = stays_all xs x.1 new does.1 (stays_one x.0 old x.1 does.0 is)

  -- ---- the name of a pipe that was made
  record IsFresh (y : ℕ × O) (old new : S) : Type 0 where
    there : IsThere K new (K.out_name y.1)
    is_new : K.exact ≡ true → IsThere K old (K.out_name y.1) → ⊥

  makes_with : (b : Bool) (capacity : ℕ) (hs : List (O × I)) (y : ℕ × O) (old new : S) → MadeWith K capacity hs old new → (if b then made_with capacity hs else None) ≡ Some y → IsFresh y old new
  makes_with false capacity hs y old new does made = absurd (none_some made)
  makes_with true capacity [] y old new does made = absurd does
  makes_with true capacity (h ∷ hs) y old new does made =
      let is : MakesPipe K capacity h.0 h.1 old new = does.0 in
      subst (λ (z : ℕ × O). IsFresh z old new) (some_is made) (record { there = is.there; is_new = is.is_new })

  makes : (p : PipeId) (y : ℕ × O) (change : PipeChange O I) (old new : S) → DoesChange K ps change old new → made_by p change ≡ Some y → IsFresh y old new
  makes p y Kept old new does made = absurd (none_some made)
  makes p y (Made d capacity halves) old new does made = makes_with (is_end d p) capacity halves.items y old new does made
  makes p y (Sealed k e half) old new does made = absurd (none_some made)
  makes p y (SealedAgain k e) old new does made = absurd (none_some made)
  makes p y (Parted k e half) old new does made = absurd (none_some made)
  makes p y (Settled k e) old new does made = absurd (none_some made)

  -- it is given behind them
  made_there : (xs : List (PipeChange O I × S)) (old new : S) → DoesChanges K ps old xs new → (p : PipeId) (y : ℕ × O) → made_last p xs ≡ Some y → IsThere K new (K.out_name y.1)
  made_there [] old new does p y made = absurd (none_some made)
  made_there (x ∷ xs) old new does p y made = by (made_last p xs) refl made (made_there xs x.1 new does.1 p y)
    where
      by : (m : Option (ℕ × O)) → made_last p xs ≡ m → option_or m (made_by p x.0) ≡ Some y → (made_last p xs ≡ Some y → IsThere K new (K.out_name y.1)) → IsThere K new (K.out_name y.1)
      by (Some z) e so later = later (e ∙ so)
      by None e so later = stays_all (K.out_name y.1) xs x.1 new does.1 (makes p y x.0 old x.1 does.0 so).there

  module _ (exact : K.exact ≡ true) where
    -- it was not before
    not_made : (xs : List (PipeChange O I × S)) (old new : S) → DoesChanges K ps old xs new → (p : PipeId) (y : ℕ × O) → made_last p xs ≡ Some y → IsThere K old (K.out_name y.1) → ⊥
    not_made [] old new does p y made there = none_some made
    not_made (x ∷ xs) old new does p y made there = by (made_last p xs) refl made (λ m. not_made xs x.1 new does.1 p y m (stays_one (K.out_name y.1) x.0 old x.1 does.0 there))
      where
        by : (m : Option (ℕ × O)) → made_last p xs ≡ m → option_or m (made_by p x.0) ≡ Some y → (made_last p xs ≡ Some y → ⊥) → ⊥
        by (Some z) e so later = later (e ∙ so)
        by None e so later = (makes p y x.0 old x.1 does.0 so).is_new exact there

    -- and no other pipe was made by it
    one_made : (xs : List (PipeChange O I × S)) (old new : S) → DoesChanges K ps old xs new → (p q : PipeId) (y z : ℕ × O) → made_last p xs ≡ Some y → made_last q xs ≡ Some z →
        K.out_name y.1 ≡ K.out_name z.1 → p ≡ q
    one_made [] old new does p q y z m k same = absurd (none_some m)
    one_made (x ∷ xs) old new does p q y z m k same = by (made_last p xs) (made_last q xs) refl refl m k (λ a b. one_made xs x.1 new does.1 p q y z a b same)
      where
        by : (a b : Option (ℕ × O)) → made_last p xs ≡ a → made_last q xs ≡ b → option_or a (made_by p x.0) ≡ Some y → option_or b (made_by q x.0) ≡ Some z → (made_last p xs ≡ Some y → made_last q xs ≡ Some z → p ≡ q) → p ≡ q
        by (Some u) (Some v) e f m k later = later (e ∙ m) (f ∙ k)
        by (Some u) None e f m k later = absurd (not_made xs x.1 new does.1 p y (e ∙ m) (subst (IsThere K x.1) (sym same) (makes q z x.0 old x.1 does.0 k).there))
        by None (Some v) e f m k later = absurd (not_made xs x.1 new does.1 q z (f ∙ k) (subst (IsThere K x.1) same (makes p y x.0 old x.1 does.0 m).there))
        by None None e f m k later = one_end p q y z x.0 m k

-- ---- the names of all pipes
pub names_stand_on : {S O I N : Type 0} (K : Known S O I N) → NamesStandOn K
names_stand_on {S} {O} {I} {N} K c now within names said ps changes old new go does stand = record {
  there = λ p n is. there_so p n (comes p n is);
  distinct = λ exact d e n of_d of_e. apart exact d e n (comes d n of_d) (comes e n of_e);
  made = λ p n is. made_so p n (comes p n is);
}
  where
    -- it had its name, or was made
    Comes : PipeId → N → Type 0
    Comes p n = (names p ≡ Some n) ⊎ IsMade K c now changes p n

    comes : (p : PipeId) (n : N) → said p ≡ Some n → Comes p n
    comes p n is = by (names p) refl
      where
        by : (m : Option N) → names p ≡ m → Comes p n
        by (Some m) e = inl (e ∙ ap (λ (x : N). Some x) (some_is (sym (go.kept p m e) ∙ is)))
        by None e = inr (go.more p n e is)

    there_so : (p : PipeId) (n : N) → Comes p n → IsThere K new n
    there_so p n (inl was) = stays_all K ps n changes old new does (stand.there p n was)
    there_so p n (inr m) = subst (IsThere K new) m.name_is (made_there K ps changes old new does p (m.capacity, m.half) m.made)

    apart : K.exact ≡ true → (d e : PipeId) (n : N) → Comes d n → Comes e n → d ≡ e
    apart exact d e n (inl was) (inl had) = stand.distinct exact d e n was had
    apart exact d e n (inl was) (inr k) = absurd (not_made K ps exact changes old new does e (k.capacity, k.half) k.made (subst (IsThere K old) (sym k.name_is) (stand.there d n was)))
    apart exact d e n (inr m) (inl had) = absurd (not_made K ps exact changes old new does d (m.capacity, m.half) m.made (subst (IsThere K old) (sym m.name_is) (stand.there e n had)))
    apart exact d e n (inr m) (inr k) = one_made K ps exact changes old new does d e (m.capacity, m.half) (k.capacity, k.half) m.made k.made (m.name_is ∙ sym k.name_is)

    made_so : (p : PipeId) (n : N) → Comes p n → p.pair.0 < next_pair now
    made_so p n (inl was) = (let lt = stand.made p n was in omega (arith, lt, within))
    made_so p n (inr m) = m.numbered

pub names_stay : {S O I N : Type 0} (K : Known S O I N) → NamesStay K
names_stay K c now within names said same old new there stand = record {
  there = λ p n is. there n (stand.there p n (sym (same p) ∙ is));
  distinct = λ exact d e n of_d of_e. stand.distinct exact d e n (sym (same d) ∙ of_d) (sym (same e) ∙ of_e);
  made = λ p n is. (let lt = stand.made p n (sym (same p) ∙ is) in omega (arith, lt, within));
}
