-- Names by places: a name more, a name fewer, and what they are in the definitions.
use Rattle.std.proofs.Common.{◌≡◌, ◌↔◌, ◌++◌, ℕ, Bool, true, false, cond, not, List, [], ◌∷◌, Option, None, Some, refl, sym, ap, ◌∙◌, nat_eq, true≢false}
use Rattle.std.proofs.lemmas.Bool.Decides.{Decides-eqb}
use Rattle.std.specs.Cmp.Lexicographic.{bytes_decides, nat_list_eq_equiv}
use Rattle.std.specs.Prelude.{find}
use Rattle.std.specs.Option.{option_map}
use Rattle.std.specs.Str.{bytes_eq}
use Rattle.spec_pattern.specs.TurnList.{End}
use Rattle.spec_pattern.specs.Routing.{Named, named}
use Rattle.router_dealer.specs.PlaceNames.{PlaceName, names_at, place_named, name_placed, AreApart, without_name_at, without_named}

pub same_some : {A : Type 0} {x y : A} → Some x ≡ Some y → x ≡ y
same_some e = cc

pub no_some : {A : Type 0} {x : A} → None ≡ Some x → ⊥
no_some e = cc

-- the tests of names and of places decide equality
names_equal : (a b : List ℕ) → bytes_eq a b ≡ true → a ≡ b
names_equal a b e = (bytes_decides a b).0 e

same_name : (a : List ℕ) → bytes_eq a a ≡ true
same_name a = (bytes_decides a a).1 refl

places_equal : (a b : ℕ) → nat_eq a b ≡ true → a ≡ b
places_equal a b e = (Decides-eqb a b).0 e

pub same_place : (a : ℕ) → nat_eq a a ≡ true
same_place a = (Decides-eqb a a).1 refl

-- the test of places is the same the other way round
pub turned : (a b : ℕ) → nat_eq a b ≡ nat_eq b a
turned a b = by (nat_eq a b) (nat_eq b a) refl refl
  where
    by : (c d : Bool) → nat_eq a b ≡ c → nat_eq b a ≡ d → c ≡ d
    by true true e f = refl
    by false false e f = refl
    by true false e f = absurd (true≢false (sym (same_place a) ∙ ap (λ k. nat_eq k a) (places_equal a b e) ∙ f))
    by false true e f = absurd (true≢false (sym (same_place a) ∙ ap (nat_eq a) (sym (places_equal b a f)) ∙ e))

-- a search that found nothing failed at the first, and behind it
pub failed : {A : Type 0} (b : Bool) (x : A) (o : Option A) → cond b (Some x) o ≡ None → (b ≡ false) × (o ≡ None)
failed true x o h = absurd (no_some (sym h))
failed false x o h = (refl, h)

-- nothing, either way
none_either : {A : Type 0} (b : Bool) (o : Option A) → o ≡ None → cond b None o ≡ None
none_either true o h = refl
none_either false o h = h

-- ---- each name has one place, and each place one name

-- the names by their places and the places by their names say the same
abbrev pub AreTied : (List ℕ → Option ℕ) → (ℕ → Option (List ℕ)) → Type 0
AreTied place_of name_of = (name : List ℕ) (place : ℕ) → (place_of name ≡ Some place) ↔ (name_of place ≡ Some name)

pub apart_tied : (ns : List PlaceName) → AreApart ns → AreTied (place_named ns) (name_placed ns)
apart_tied [] apart name place = (λ h. absurd (no_some h), λ h. absurd (no_some h))
apart_tied (n ∷ ns) apart name place =
    let rest = apart_tied ns apart.2 name place in (
      λ h. there (bytes_eq name n.name) (nat_eq place n.place) refl refl rest.0 h,
      λ h. back (bytes_eq name n.name) (nat_eq place n.place) refl refl rest.1 h,
    )
  where
    there : (b c : Bool) → bytes_eq name n.name ≡ b → nat_eq place n.place ≡ c
        → (place_named ns name ≡ Some place → name_placed ns place ≡ Some name)
        → cond b (Some n.place) (place_named ns name) ≡ Some place → cond c (Some n.name) (name_placed ns place) ≡ Some name
    there true true e d rest h = ap Some (sym (names_equal name n.name e))
    there true false e d rest h = absurd (true≢false (sym (same_place place) ∙ ap (nat_eq place) (sym (same_some h)) ∙ d))
    there false true e d rest h = absurd (no_some (sym apart.1 ∙ ap (name_placed ns) (sym (places_equal place n.place d)) ∙ rest h))
    there false false e d rest h = rest h

    back : (b c : Bool) → bytes_eq name n.name ≡ b → nat_eq place n.place ≡ c
        → (name_placed ns place ≡ Some name → place_named ns name ≡ Some place)
        → cond c (Some n.name) (name_placed ns place) ≡ Some name → cond b (Some n.place) (place_named ns name) ≡ Some place
    back true true e d rest h = ap Some (sym (places_equal place n.place d))
    back false true e d rest h = absurd (true≢false (sym (same_name name) ∙ ap (bytes_eq name) (sym (same_some h)) ∙ e))
    back true false e d rest h = absurd (no_some (sym apart.0 ∙ ap (place_named ns) (sym (names_equal name n.name e)) ∙ rest h))
    back false false e d rest h = rest h

-- ---- a name more

module _ (name : List ℕ) (place : ℕ) where
  -- the new one
  new : PlaceName
  new = record { name = name; place = place }

  -- what each name stands for then
  pub place_named-given : (ns : List PlaceName) → place_named ns name ≡ None → (q : List ℕ)
      → place_named (ns ++ record { name = name; place = place } ∷ []) q ≡ cond (bytes_eq q name) (Some place) (place_named ns q)
  place_named-given [] free q = refl
  place_named-given (n ∷ ns) free q =
      by (bytes_eq q n.name) (bytes_eq q name) refl refl (place_named-given ns rest.1 q)
    where
      rest : (bytes_eq name n.name ≡ false) × (place_named ns name ≡ None)
      rest = failed (bytes_eq name n.name) n.place (place_named ns name) free

      by : (b c : Bool) → bytes_eq q n.name ≡ b → bytes_eq q name ≡ c
          → place_named (ns ++ record { name = name; place = place } ∷ []) q ≡ cond c (Some place) (place_named ns q)
          → cond b (Some n.place) (place_named (ns ++ record { name = name; place = place } ∷ []) q)
          ≡ cond c (Some place) (cond b (Some n.place) (place_named ns q))
      by true true e d h = absurd (true≢false (sym e ∙ ap (λ a. bytes_eq a n.name) (names_equal q name d) ∙ rest.0))
      by true false e d h = refl
      by false c e d h = h

  -- and what name each place has
  pub name_placed-given : (ns : List PlaceName) → name_placed ns place ≡ None → (p : ℕ)
      → name_placed (ns ++ record { name = name; place = place } ∷ []) p ≡ cond (nat_eq p place) (Some name) (name_placed ns p)
  name_placed-given [] free p = refl
  name_placed-given (n ∷ ns) free p =
      by (nat_eq p n.place) (nat_eq p place) refl refl (name_placed-given ns rest.1 p)
    where
      rest : (nat_eq place n.place ≡ false) × (name_placed ns place ≡ None)
      rest = failed (nat_eq place n.place) n.name (name_placed ns place) free

      by : (b c : Bool) → nat_eq p n.place ≡ b → nat_eq p place ≡ c
          → name_placed (ns ++ record { name = name; place = place } ∷ []) p ≡ cond c (Some name) (name_placed ns p)
          → cond b (Some n.name) (name_placed (ns ++ record { name = name; place = place } ∷ []) p)
          ≡ cond c (Some name) (cond b (Some n.name) (name_placed ns p))
      by true true e d h = absurd (true≢false (sym e ∙ ap (λ a. nat_eq a n.place) (places_equal p place d) ∙ rest.0))
      by true false e d h = refl
      by false c e d h = h

  -- a test that one way fails fails the other way
  other_way : (a b : List ℕ) → bytes_eq a b ≡ false → bytes_eq b a ≡ false
  other_way a b e = nat_list_eq_equiv.symm b a ∙ e

  other_place : (a b : ℕ) → nat_eq a b ≡ false → nat_eq b a ≡ false
  other_place a b e = turned b a ∙ e

  -- none occurs twice
  pub apart_given : (ns : List PlaceName) → AreApart ns → place_named ns name ≡ None → name_placed ns place ≡ None
      → AreApart (ns ++ record { name = name; place = place } ∷ [])
  apart_given [] apart free nameless = (refl, refl, tt)
  apart_given (n ∷ ns) apart free nameless =
      let f = failed (bytes_eq name n.name) n.place (place_named ns name) free in
      let g = failed (nat_eq place n.place) n.name (name_placed ns place) nameless in (
        place_named-given ns f.1 n.name ∙ ap (λ b. cond b (Some place) (place_named ns n.name)) (other_way name n.name f.0) ∙ apart.0,
        name_placed-given ns g.1 n.place ∙ ap (λ b. cond b (Some name) (name_placed ns n.place)) (other_place place n.place g.0) ∙ apart.1,
        apart_given ns apart.2 f.1 g.1,
      )

-- ---- a name fewer

module _ (place : ℕ) where
  -- what no name stood for, it doesn't stand for
  still_free : (ns : List PlaceName) (q : List ℕ) → place_named ns q ≡ None → place_named (without_name_at place ns) q ≡ None
  still_free [] q h = refl
  still_free (n ∷ ns) q h = by (nat_eq place n.place) (still_free ns q f.1)
    where
      f : (bytes_eq q n.name ≡ false) × (place_named ns q ≡ None)
      f = failed (bytes_eq q n.name) n.place (place_named ns q) h

      by : (b : Bool) → place_named (without_name_at place ns) q ≡ None
          → place_named (cond (not b) (n ∷ without_name_at place ns) (without_name_at place ns)) q ≡ None
      by true rest = rest
      by false rest = ap (λ c. cond c (Some n.place) (place_named (without_name_at place ns) q)) f.0 ∙ rest

  -- the name of each place
  pub name_placed-without : (ns : List PlaceName) (p : ℕ)
      → name_placed (without_name_at place ns) p ≡ cond (nat_eq p place) None (name_placed ns p)
  name_placed-without [] p = sym (none_either (nat_eq p place) (name_placed [] p) refl)
  name_placed-without (n ∷ ns) p =
      by (nat_eq place n.place) (nat_eq p n.place) (nat_eq p place) refl refl refl (name_placed-without ns p)
    where
      by : (a b c : Bool) → nat_eq place n.place ≡ a → nat_eq p n.place ≡ b → nat_eq p place ≡ c
          → name_placed (without_name_at place ns) p ≡ cond c None (name_placed ns p)
          → name_placed (cond (not a) (n ∷ without_name_at place ns) (without_name_at place ns)) p
          ≡ cond c None (cond b (Some n.name) (name_placed ns p))
      by true true true is e d h = h
      by true true false is e d h = absurd (true≢false (sym (same_place p) ∙ ap (nat_eq p) (places_equal p n.place e ∙ sym (places_equal place n.place is)) ∙ d))
      by true false c is e d h = h
      by false true true is e d h = absurd (true≢false (sym e ∙ ap (λ k. nat_eq k n.place) (places_equal p place d) ∙ is))
      by false true false is e d h = ap (λ b. cond b (Some n.name) (name_placed (without_name_at place ns) p)) e
      by false false c is e d h = ap (λ b. cond b (Some n.name) (name_placed (without_name_at place ns) p)) e ∙ h

  -- a place without a name
  still_nameless : (ns : List PlaceName) (p : ℕ) → name_placed ns p ≡ None → name_placed (without_name_at place ns) p ≡ None
  still_nameless ns p h = name_placed-without ns p ∙ none_either (nat_eq p place) (name_placed ns p) h

  -- none occurs twice
  pub apart_without : (ns : List PlaceName) → AreApart ns → AreApart (without_name_at place ns)
  apart_without [] apart = tt
  apart_without (n ∷ ns) apart = by (nat_eq place n.place) (apart_without ns apart.2)
    where
      by : (b : Bool) → AreApart (without_name_at place ns)
          → AreApart (cond (not b) (n ∷ without_name_at place ns) (without_name_at place ns))
      by true rest = rest
      by false rest = (still_free ns n.name apart.0, still_nameless ns n.place apart.1, rest)

  -- where the place has no name, all stay
  pub without_none : (ns : List PlaceName) → name_placed ns place ≡ None → without_name_at place ns ≡ ns
  without_none [] h = refl
  without_none (n ∷ ns) h =
      let f = failed (nat_eq place n.place) n.name (name_placed ns place) h in
      ap (λ b. cond (not b) (n ∷ without_name_at place ns) (without_name_at place ns)) f.0 ∙ ap (λ l. n ∷ l) (without_none ns f.1)

  -- to take the place's name away is to take the place away
  pub without_its_name : (ns : List PlaceName) (name : List ℕ) → AreApart ns → name_placed ns place ≡ Some name
      → without_named name ns ≡ without_name_at place ns
  without_its_name [] name apart h = absurd (no_some h)
  without_its_name (n ∷ ns) name apart h =
      by (bytes_eq name n.name) (nat_eq place n.place) refl refl (without_its_name ns name apart.2) h
    where
      by : (b c : Bool) → bytes_eq name n.name ≡ b → nat_eq place n.place ≡ c
          → (name_placed ns place ≡ Some name → without_named name ns ≡ without_name_at place ns)
          → cond c (Some n.name) (name_placed ns place) ≡ Some name
          → cond b ns (n ∷ without_named name ns) ≡ cond (not c) (n ∷ without_name_at place ns) (without_name_at place ns)
      by true true e d rest is = sym (without_none ns (ap (name_placed ns) (places_equal place n.place d) ∙ apart.1))
      by true false e d rest is =
          absurd (no_some (sym apart.0 ∙ ap (place_named ns) (sym (names_equal name n.name e)) ∙ (apart_tied ns apart.2 name place).1 is))
      by false true e d rest is = absurd (true≢false (sym (same_name name) ∙ ap (bytes_eq name) (sym (same_some is)) ∙ e))
      by false false e d rest is = ap (λ l. n ∷ l) (rest is)

  -- what a name stands for once the place is gone
  abbrev pub kept_at : Option ℕ → Option ℕ
  kept_at None = None
  kept_at (Some other) = cond (nat_eq place other) None (Some other)

  pub place_named-without : (ns : List PlaceName) → AreApart ns → (q : List ℕ)
      → place_named (without_name_at place ns) q ≡ kept_at (place_named ns q)
  place_named-without [] apart q = refl
  place_named-without (n ∷ ns) apart q =
      by (nat_eq place n.place) (bytes_eq q n.name) refl refl (place_named-without ns apart.2 q)
    where
      by : (a b : Bool) → nat_eq place n.place ≡ a → bytes_eq q n.name ≡ b
          → place_named (without_name_at place ns) q ≡ kept_at (place_named ns q)
          → place_named (cond (not a) (n ∷ without_name_at place ns) (without_name_at place ns)) q
          ≡ kept_at (cond b (Some n.place) (place_named ns q))
      by true true is e h =
          still_free ns q (ap (place_named ns) (names_equal q n.name e) ∙ apart.0)
          ∙ sym (ap (λ b. cond b None (Some n.place)) is)
      by true false is e h = h
      by false true is e h =
          ap (λ b. cond b (Some n.place) (place_named (without_name_at place ns) q)) e
          ∙ sym (ap (λ b. cond b None (Some n.place)) is)
      by false false is e h = ap (λ b. cond b (Some n.place) (place_named (without_name_at place ns) q)) e ∙ h

-- ---- in the definitions

-- the end of a name is that of its place
pub named-names_at : (ends : ℕ → End) (ns : List PlaceName) (q : List ℕ)
    → named (names_at ends ns) q ≡ option_map ends (place_named ns q)
named-names_at ends [] q = refl
named-names_at ends (n ∷ ns) q =
    by (bytes_eq n.name q) (bytes_eq q n.name) refl refl (named-names_at ends ns q)
  where
    by : (b c : Bool) → bytes_eq n.name q ≡ b → bytes_eq q n.name ≡ c
        → named (names_at ends ns) q ≡ option_map ends (place_named ns q)
        → option_map (λ (m : Named). m.peer) (cond b (Some (record { name = n.name; peer = ends n.place })) (find (λ (m : Named). bytes_eq m.name q) (names_at ends ns)))
        ≡ option_map ends (cond c (Some n.place) (place_named ns q))
    by true true e d h = refl
    by true false e d h = absurd (true≢false (sym e ∙ nat_list_eq_equiv.symm n.name q ∙ d))
    by false true e d h = absurd (true≢false (sym d ∙ nat_list_eq_equiv.symm q n.name ∙ e))
    by false false e d h = h
