-- At a detach each other peer's place stays.
use Rattle.std.proofs.Common.{◌≡◌, ◌==◌, ◌||◌, ℕ, Bool, true, false, cond, List, [], ◌∷◌, ◌++◌, not, map, filter, refl, sym, ap, ◌∙◌, nat_eq, eqb-true, true≢false}
use Rattle.std.specs.Cmp.{nat_eq_equiv}
use Rattle.std.proofs.lemmas.Bool.{eq-eqb}
use Rattle.std.specs.Map.{keys_of}
use Rattle.std.proofs.lemmas.List.Folds.{list_any-append}
use Rattle.spec_pattern.specs.Topics.{Subscribers, without_peer}
use Rattle.msg_pipe.specs.Turns.{without_place}
use Rattle.router_dealer.specs.PlaceNames.{PlaceName}
use Rattle.pub_sub.specs.Places.{is_place}

or_true : (b : Bool) → (b || true) ≡ true
or_true true = refl
or_true false = refl

never : {X : Type 0} → true ≡ false → X
never e = absurd (true≢false e)

module _ (place k : ℕ) (other : nat_eq place k ≡ false) where
  -- the two are apart
  apart : {X : Type 0} (x : ℕ) → nat_eq k x ≡ true → nat_eq place x ≡ true → X
  apart x mine its = never (sym (eq-eqb place k (eqb-true place x its ∙ sym (eqb-true k x mine))) ∙ other)

  pub stays_in : (xs : List ℕ) → is_place xs k ≡ true → is_place (without_place place xs) k ≡ true
  stays_in [] h = h
  stays_in (x ∷ xs) h = by (stays_in xs) (nat_eq k x) (x == place) refl refl h
    where
      by : (is_place xs k ≡ true → is_place (without_place place xs) k ≡ true) → (b c : Bool) → nat_eq k x ≡ b → (x == place) ≡ c → (b || is_place xs k) ≡ true
          → is_place (cond (not c) (x ∷ without_place place xs) (without_place place xs)) k ≡ true
      by rest true true mine its h = apart x mine (nat_eq_equiv.symm place x ∙ its)
      by rest true false mine its h = ap (λ (b : Bool). b || is_place (without_place place xs) k) mine
      by rest false true mine its h = rest h
      by rest false false mine its h = ap (λ (b : Bool). nat_eq k x || b) (rest h) ∙ or_true (nat_eq k x)

  pub stays_named : (names : List PlaceName) → is_place (map (λ n. n.place) names) k ≡ true
      → is_place (map (λ n. n.place) (filter (λ n. not (nat_eq place n.place)) names)) k ≡ true
  stays_named [] h = h
  stays_named (n ∷ names) h = by (stays_named names) (nat_eq k n.place) (nat_eq place n.place) refl refl h
    where
      left : List PlaceName
      left = filter (λ n. not (nat_eq place n.place)) names

      by : (is_place (map (λ n. n.place) names) k ≡ true → is_place (map (λ n. n.place) left) k ≡ true) → (b c : Bool) → nat_eq k n.place ≡ b → nat_eq place n.place ≡ c → (b || is_place (map (λ n. n.place) names) k) ≡ true
          → is_place (map (λ n. n.place) (cond (not c) (n ∷ left) left)) k ≡ true
      by rest true true mine its h = apart n.place mine its
      by rest true false mine its h = ap (λ (b : Bool). b || is_place (map (λ n. n.place) left) k) mine
      by rest false true mine its h = rest h
      by rest false false mine its h = ap (λ (b : Bool). nat_eq k n.place || b) (rest h) ∙ or_true (nat_eq k n.place)

  pub stays_listed : (subs : Subscribers ℕ) → is_place (keys_of subs) k ≡ true → is_place (keys_of (without_peer nat_eq place subs)) k ≡ true
  stays_listed [] h = h
  stays_listed (s ∷ subs) h = by (stays_listed subs) (nat_eq k s.0) (nat_eq place s.0) refl refl h
    where
      left : Subscribers ℕ
      left = without_peer nat_eq place subs

      by : (is_place (keys_of subs) k ≡ true → is_place (keys_of left) k ≡ true) → (b c : Bool) → nat_eq k s.0 ≡ b → nat_eq place s.0 ≡ c → (b || is_place (keys_of subs) k) ≡ true → is_place (keys_of (cond c subs (s ∷ left))) k ≡ true
      by rest true true mine its h = apart s.0 mine its
      by rest true false mine its h = ap (λ (b : Bool). b || is_place (keys_of left) k) mine
      by rest false true mine its h = h
      by rest false false mine its h = ap (λ (b : Bool). nat_eq k s.0 || b) (rest h) ∙ or_true (nat_eq k s.0)

  -- two lists of places, each of which keeps it
  pub stays_both : (xs xs' ys ys' : List ℕ) → (is_place xs k ≡ true → is_place xs' k ≡ true) → (is_place ys k ≡ true → is_place ys' k ≡ true) → is_place (xs ++ ys) k ≡ true → is_place (xs' ++ ys') k ≡ true
  stays_both xs xs' ys ys' front behind h = list_any-append (nat_eq k) xs' ys' ∙ by (is_place xs k) refl (sym (list_any-append (nat_eq k) xs ys) ∙ h)
    where
      by : (b : Bool) → is_place xs k ≡ b → (b || is_place ys k) ≡ true → (is_place xs' k || is_place ys' k) ≡ true
      by true here h = ap (λ (b : Bool). b || is_place ys' k) (front here)
      by false here h = ap (λ (b : Bool). is_place xs' k || b) (behind h) ∙ or_true (is_place xs' k)
