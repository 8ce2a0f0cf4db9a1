-- What changes of a table of names are in the map that it is.
use Rattle.std.proofs.Common.{◌≡◌, ℕ, Bool, true, false, cond, not, List, [], ◌∷◌, Option, None, Some, refl, sym, ap, ◌∙◌, nat_eq}
use Rattle.std.specs.Ordering.{nat_cmp, eq_by_cmp}
use Rattle.std.specs.Cmp.{unsigned_ties}
use Rattle.std.specs.Cmp.Lexicographic.{slice_cmp, bytes_decides, lists_ties, nat_list_cmp_total, nat_list_eq_equiv}
use Rattle.std.specs.Str.{bytes_eq}
use Rattle.std.specs.Map.{lookup, KeepsOthers, IsKeyTest, AreApart}
use Rattle.std.specs.FinMap as finite
use Rattle.zq_base.specs.declared.ids.ObjId.{ObjId}
use Rattle.spec_control.specs.declared.book.Binding.{Binding}
use Rattle.spec_control.specs.EndpointBook.{Names, is_object, is_held_by, names_without}
use Rattle.endpoint_book.specs.View.{names_of}
use Rattle.endpoint_book.specs.Held.{of_others, FreesAll}

-- numbers tie in their order where they are equal
nat_ties : (x y : ℕ) → nat_eq x y ≡ eq_by_cmp nat_cmp x y
nat_ties x y = unsigned_ties x y

-- and octets in theirs
pub octets_ties : (q n : List ℕ) → eq_by_cmp (slice_cmp nat_cmp) q n ≡ bytes_eq q n
octets_ties q n = sym (lists_ties nat_cmp nat_ties q n)

-- names that tie are one
pub names_apart : finite.IsAntisymmetric (slice_cmp nat_cmp)
names_apart = finite.slice_cmp-IsAntisymmetric finite.nat_cmp-IsAntisymmetric

-- maps that answer alike are one
pub same_names : (m n : Names) → ((q : List ℕ) → finite.get m q ≡ finite.get n q) → m ≡ n
same_names = finite.same_map nat_list_cmp_total names_apart

-- a binding that is the object's is left out
kept_where_other : (object : ObjId) (o : Option Binding)
    → of_others object o ≡ cond (not (is_held_by object o)) o None
kept_where_other object None = refl
kept_where_other object (Some b) = by (is_object b.holder object)
  where
    by : (c : Bool) → cond c None (Some b) ≡ cond (not c) (Some b) None
    by true = refl
    by false = refl

module _ {K : Type 0} (numbers : K → List ℕ) where
  -- a name's test of a key
  abbrev pub is_named : List ℕ → K → Bool
  is_named name key = bytes_eq name (numbers key)

  -- two keys have the same octets
  abbrev pub same_key : K → K → Bool
  same_key key other = bytes_eq (numbers key) (numbers other)

  -- the map answers what the entries do
  pub get-names_of : (es : List (K × Binding)) (q : List ℕ) → finite.get (names_of numbers es) q ≡ lookup (is_named q) es
  get-names_of [] q = finite.get-empty (slice_cmp nat_cmp) q
  get-names_of (e ∷ es) q =
      finite.get-insert nat_list_cmp_total (names_of numbers es) (numbers e.0) e.1 q
      ∙ ap (λ b. cond b (Some e.1) (finite.get (names_of numbers es) q)) (octets_ties q (numbers e.0))
      ∙ ap (cond (bytes_eq q (numbers e.0)) (Some e.1)) (get-names_of es q)

  -- a name tests keys as a key does
  tests_keys : (q : List ℕ) → IsKeyTest same_key (is_named q)
  tests_keys q x y h = nat_list_eq_equiv.congr q (numbers x) (numbers y) h

  -- two names that differ are of no key
  apart : (name q : List ℕ) → bytes_eq q name ≡ false → AreApart (is_named name) (is_named q)
  apart name q other key h =
      nat_list_eq_equiv.symm q (numbers key)
      ∙ sym (nat_list_eq_equiv.congr name (numbers key) q h)
      ∙ nat_list_eq_equiv.symm name q
      ∙ other

  -- what each name has once one was changed
  pub get-changed : (name : List ℕ) (w : Option Binding) (es fs : List (K × Binding))
      → lookup (is_named name) fs ≡ w → KeepsOthers same_key (is_named name) es fs
      → (q : List ℕ) → finite.get (names_of numbers fs) q ≡ cond (bytes_eq q name) w (finite.get (names_of numbers es) q)
  unfolding KeepsOthers
  get-changed name w es fs at keeps q = by (bytes_eq q name) refl
    where
      by : (b : Bool) → bytes_eq q name ≡ b → finite.get (names_of numbers fs) q ≡ cond b w (finite.get (names_of numbers es) q)
      by true e = get-names_of fs q ∙ ap (λ n. lookup (is_named n) fs) ((bytes_decides q name).0 e) ∙ at
      by false e = get-names_of fs q ∙ keeps (is_named q) (tests_keys q) (apart name q e) ∙ sym (get-names_of es q)

  -- the map once a name is held
  pub names_of-held : (name : List ℕ) (binding : Binding) (es fs : List (K × Binding))
      → lookup (is_named name) fs ≡ Some binding → KeepsOthers same_key (is_named name) es fs
      → names_of numbers fs ≡ finite.insert (names_of numbers es) name binding
  names_of-held name binding es fs at keeps = same_names _ _ (λ q.
      get-changed name (Some binding) es fs at keeps q
      ∙ ap (λ b. cond b (Some binding) (finite.get (names_of numbers es) q)) (sym (octets_ties q name))
      ∙ sym (finite.get-insert nat_list_cmp_total (names_of numbers es) name binding q))

  -- the map once a name is held no more
  pub names_of-freed : (name : List ℕ) (es fs : List (K × Binding))
      → lookup (is_named name) fs ≡ None → KeepsOthers same_key (is_named name) es fs
      → names_of numbers fs ≡ finite.remove (names_of numbers es) name
  names_of-freed name es fs at keeps = same_names _ _ (λ q.
      get-changed name None es fs at keeps q
      ∙ ap (λ b. cond b None (finite.get (names_of numbers es) q)) (sym (octets_ties q name))
      ∙ sym (finite.get-remove nat_list_cmp_total (names_of numbers es) name q))

  -- the map once the names of an object are gone
  pub names_of-dropped : (object : ObjId) (es fs : List (K × Binding)) → FreesAll same_key object es fs
      → names_of numbers fs ≡ names_without object (names_of numbers es)
  names_of-dropped object es fs frees = same_names _ _ (λ q.
      get-names_of fs q
      ∙ frees (is_named q) (tests_keys q)
      ∙ ap (of_others object) (sym (get-names_of es q))
      ∙ kept_where_other object (finite.get (names_of numbers es) q)
      ∙ sym (finite.get-retain_keys (names_of numbers es) (λ name. not (is_held_by object (finite.get (names_of numbers es) name))) q
      (λ x tied. ap (λ o. not (is_held_by object o)) (finite.get_tied nat_list_cmp_total (names_of numbers es) q x tied))))
