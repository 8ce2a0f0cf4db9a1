-- The place of an end that is held, and the ends at other places.
use Rattle.std.proofs.Common.{◌≡◌, ◌≢◌, ◌==◌, ◌&&◌, ◌||◌, ◌∙◌, ◌+◌, ◌<◌, ℕ, zero, suc, Bool, true, false, cond, not, List, [], ◌∷◌, length, None, Some, refl, sym, ap, one-add, arith, nat_lt, true≢false, eqb-true}
use Rattle.std.proofs.lemmas.Bool.{eq-eqb}
use Rattle.std.proofs.lemmas.Bool.Decides.{nat_tests, Decides-ltb}
use Rattle.std.proofs.lemmas.Option.{cond_some}
use Rattle.std.specs.List.{list_any, position, position_or_len}
use Rattle.zq_base.specs.declared.ids.EndId.{EndId}
use Rattle.spec_control.specs.Control.{end_of, is_end, same_side}
use Rattle.msg_pipe.specs.Known.{Known}
use Rattle.end_table.specs.Rows.{Rows}
use Rattle.desk.specs.Holding.{has_end}
use Rattle.end_table.specs.declared.table.Place.{Place}
use Rattle.end_table.specs.Places.{IsOnce, place_at, held_of, held_in, is_of}
use Rattle.end_table.specs.Sound.{IsSound}
use Rattle.end_table.proofs.SoundLemmas.{one_some}

pub never : {X : Type 0} → true ≡ false → X
never e = absurd (true≢false e)

left : (a b : Bool) → (a && b) ≡ true → a ≡ true
left true b h = refl
left false b h = never (sym h)

right : (a b : Bool) → (a && b) ≡ true → b ≡ true
right true b h = h
right false b h = never (sym h)

side_self : (a : Bool) → same_side a a ≡ true
side_self true = refl
side_self false = refl

side_is : (a b : Bool) → same_side a b ≡ true → a ≡ b
side_is true true h = refl
side_is true false h = never (sym h)
side_is false true h = never (sym h)
side_is false false h = refl

pub end_self : (e : EndId) → is_end e e ≡ true
end_self e = ap (λ (b : Bool). b && same_side e.a e.a) (eq-eqb e.pair.0 e.pair.0 refl) ∙ side_self e.a

pub same_end : (d e : EndId) → is_end d e ≡ true → d ≡ e
same_end d e h =
    ap (λ (n : ℕ). end_of n d.a) (eqb-true d.pair.0 e.pair.0 (left _ _ h)) ∙ ap (end_of e.pair.0) (side_is d.a e.a (right (d.pair.0 == e.pair.0) _ h))

module _ {N I : Type 0} where
  pub held_is : (e : EndId) (p : Place N I) → is_of e p ≡ true → p.held ≡ true
  held_is e p h = left p.held (is_end e p.end) h

  pub end_is : (e : EndId) (p : Place N I) → is_of e p ≡ true → e ≡ p.end
  end_is e p h = same_end e p.end (right p.held (is_end e p.end) h)

  module _ (test : Place N I → Bool) where
    -- the first that passes
    pub at_first : (ps : List (Place N I)) → position_or_len test ps < length ps → (p : Place N I) × (place_at ps (position_or_len test ps) ≡ Some p) × (test p ≡ true)
    at_first [] lt = absurd (omega arith)
    at_first (x ∷ xs) lt = by (λ l. at_first xs l) (test x) refl lt
      where
        by : (position_or_len test xs < length xs → (p : Place N I) × (place_at xs (position_or_len test xs) ≡ Some p) × (test p ≡ true)) → (b : Bool) → test x ≡ b → cond (not b) (1 + position_or_len test xs) 0 < length (x ∷ xs)
            → (p : Place N I) × (place_at (x ∷ xs) (cond (not b) (1 + position_or_len test xs) 0) ≡ Some p) × (test p ≡ true)
        by rest true e lt = (x, refl, e)
        by rest false e lt =
            let r = rest (omega (arith, lt)) in
            (r.0, ap (place_at (x ∷ xs)) (one-add (position_or_len test xs)) ∙ r.1, r.2)

    pub found : (ps : List (Place N I)) (k : ℕ) → Some k ≡ position test ps → (p : Place N I) × (place_at ps k ≡ Some p) × (test p ≡ true)
    found ps k e =
        let f = cond_some (nat_lt (position_or_len test ps) (length ps)) (position_or_len test ps) k (sym e) in
        let r = at_first ps ((Decides-ltb (position_or_len test ps) (length ps)).0 f.0) in
        (r.0, ap (place_at ps) (sym f.1) ∙ r.1, r.2)

    any_within : (ps : List (Place N I)) → list_any test ps ≡ nat_lt (position_or_len test ps) (length ps)
    any_within [] = refl
    any_within (x ∷ xs) = by (test x) (any_within xs)
      where
        first_within : (n : ℕ) → true ≡ nat_lt 0 (suc n)
        first_within n = grind (arith, nat_tests)

        one_later : (m n : ℕ) → nat_lt m n ≡ nat_lt (1 + m) (suc n)
        one_later m n = grind (arith, nat_tests)

        by : (b : Bool) → list_any test xs ≡ nat_lt (position_or_len test xs) (length xs)
            → (b || list_any test xs) ≡ nat_lt (cond (not b) (1 + position_or_len test xs) 0) (length (x ∷ xs))
        by true rest = first_within (length xs)
        by false rest = rest ∙ one_later (position_or_len test xs) (length xs)

    pub not_found : (ps : List (Place N I)) → None ≡ position test ps → list_any test ps ≡ false
    not_found ps e = any_within ps ∙ by (nat_lt (position_or_len test ps) (length ps)) e
      where
        by : (b : Bool) → None ≡ cond b (Some (position_or_len test ps)) None → b ≡ false
        by true e = cc
        by false e = refl

    -- one that passes, and where none does
    pub some_passes : (ps : List (Place N I)) → list_any test ps ≡ true → (j : ℕ) × (r : Place N I) × (place_at ps j ≡ Some r) × (test r ≡ true)
    some_passes [] h = never (sym h)
    some_passes (x ∷ xs) h = by (λ l. some_passes xs l) (test x) refl h
      where
        by : (list_any test xs ≡ true → (j : ℕ) × (r : Place N I) × (place_at xs j ≡ Some r) × (test r ≡ true)) → (b : Bool) → test x ≡ b → (b || list_any test xs) ≡ true → (j : ℕ) × (r : Place N I) × (place_at (x ∷ xs) j ≡ Some r) × (test r ≡ true)
        by rest true e h = (0, x, refl, e)
        by rest false e h = let r = rest h in (suc r.0, r.1, r.2, r.3)

    pub one_passes : (ps : List (Place N I)) (k : ℕ) (p : Place N I) → place_at ps k ≡ Some p → test p ≡ true → list_any test ps ≡ true
    one_passes [] k p at h = cc
    one_passes (x ∷ xs) zero p at h = ap (λ (b : Bool). b || list_any test xs) (ap test (one_some x p at) ∙ h)
    one_passes (x ∷ xs) (suc k) p at h = ap (λ (b : Bool). test x || b) (one_passes xs k p at h) ∙ or_true (test x)
      where
        or_true : (b : Bool) → (b || true) ≡ true
        or_true true = refl
        or_true false = refl

    pub none_passes : (ps : List (Place N I)) → ((j : ℕ) (r : Place N I) → place_at ps j ≡ Some r → test r ≡ false) → list_any test ps ≡ false
    none_passes [] h = refl
    none_passes (x ∷ xs) h = ap (λ (b : Bool). b || list_any test xs) (h 0 x refl) ∙ none_passes xs (λ j r at. h (suc j) r at)

  -- an end is had where it is held at a place
  pub has_here : (e : EndId) (ps : List (Place N I)) → has_end e (held_in ps) ≡ list_any (is_of e) ps
  has_here e [] = refl
  has_here e (p ∷ ps) = by p.held (has_here e ps)
    where
      by : (b : Bool) → has_end e (held_in ps) ≡ list_any (is_of e) ps → has_end e (cond b (held_of p ∷ held_in ps) (held_in ps)) ≡ ((b && is_end e p.end) || list_any (is_of e) ps)
      by true rest = ap (λ (b : Bool). is_end e p.end || b) rest
      by false rest = rest

-- no two ends that are held are one
pub alone_of : {S O I N : Type 0} (K : Known S O I N) (pipes : S) (rows : Rows O I) (ps : List (Place N I)) (k : ℕ) (p : Place N I) (e : EndId) → IsSound K pipes rows ps → place_at ps k ≡ Some p → is_of e p ≡ true
    → (j : ℕ) (r : Place N I) → j ≢ k → place_at ps j ≡ Some r → is_of e r ≡ false
alone_of K pipes rows ps k p e sound there is j r ne at = by (is_of e r) refl
  where
    by : (b : Bool) → is_of e r ≡ b → b ≡ false
    by true h = absurd ((sound.apart j k r p ne at there (held_is e r h) (held_is e p is)).ends (sym (end_is e r h) ∙ end_is e p is))
    by false h = refl

pub once_of : {S O I N : Type 0} (K : Known S O I N) (pipes : S) (rows : Rows O I) (ps : List (Place N I)) (e : EndId) → IsSound K pipes rows ps → IsOnce e ps
once_of K pipes rows ps e sound j k p q ne at there is = alone_of K pipes rows ps k q e sound there is j p ne at
