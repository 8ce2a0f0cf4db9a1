-- What changes and look-ups in the tree of lists are in the lists by octets.
use Rattle.std.proofs.Common.{◌≡◌, ◌∙◌, ℕ, Bool, true, false, cond, List, [], ◌∷◌, Option, None, Some, refl, sym, ap, Bor}
use Rattle.std.specs.BTreeMap.{BTreeMap, UpdatesBy}
use Rattle.std.specs.Cmp.{unsigned_ties}
use Rattle.std.specs.Cmp.Lexicographic.{slice_cmp, lists_ties, bytes_decides, nat_list_eq_equiv}
use Rattle.std.specs.Map.{lookup, KeepsOthers, IsKeyTest, AreApart}
use Rattle.std.specs.Option.{option_map, unwrap_or}
use Rattle.std.specs.Ordering.{nat_cmp, eq_by_cmp}
use Rattle.std.specs.declared.cmp.Ordering.{Ordering}
use Rattle.std.specs.Str.{bytes_eq}
use Rattle.std.specs.declared.vec.Vec.{Vec}
use Rattle.spec_control.specs.declared.book.Waiting.{Waiting}
use Rattle.endpoint_book.specs.WaitLists.{Lists, Sets, AreAlike, lists_of, list_at}

-- octets tie in their order where they are equal
line_ties : (q t : List ℕ) → eq_by_cmp (slice_cmp nat_cmp) q t ≡ bytes_eq q t
line_ties q t = sym (lists_ties nat_cmp unsigned_ties q t)

-- what a look-up finds, as a list
abbrev pub items_in : {B : Type 0} → Option (Vec Waiting B) → List Waiting
items_in {B = B} found = unwrap_or (option_map (λ (v : Vec Waiting B). v.items) found) []

module _ {A : Type 0} where
  -- a key's test, by order
  abbrev pub at_line : List ℕ → Vec ℕ A → Bool
  at_line q k = eq_by_cmp (slice_cmp nat_cmp) q k.items

  -- the order of keys is that of their octets
  abbrev pub line_cmp : Vec ℕ A → Vec ℕ A → Ordering
  line_cmp k other = slice_cmp nat_cmp k.items other.items

  -- a line's test is that of one key
  is_line_test : (t : List ℕ) → IsKeyTest (eq_by_cmp line_cmp) (at_line t)
  is_line_test t x y h = ap (λ l. eq_by_cmp (slice_cmp nat_cmp) l y.items) ((bytes_decides t x.items).0 (sym (line_ties t x.items) ∙ h))

  -- the tests of two lines are never met by one key
  lines_apart : (line t : List ℕ) → bytes_eq line t ≡ false → AreApart (at_line line) (at_line t)
  lines_apart line t other k h =
      line_ties t k.items ∙ ap (bytes_eq t) (sym ((bytes_decides line k.items).0 (sym (line_ties line k.items) ∙ h)))
      ∙ nat_list_eq_equiv.symm t line ∙ other

module _ {A B : Type 0} where
  -- a look-up
  lookup-lists_of : (q : List ℕ) (es : List (Vec ℕ A × Vec Waiting B)) → option_map (λ v. v.items) (lookup (at_line q) es) ≡ lookup (bytes_eq q) (lists_of es)
  lookup-lists_of q [] = refl
  lookup-lists_of q (e ∷ es) = by (eq_by_cmp (slice_cmp nat_cmp) q e.0.items) (lookup-lists_of q es) ∙ ap (λ b. cond b (Some e.1.items) (lookup (bytes_eq q) (lists_of es))) (line_ties q e.0.items)
    where
      by : (b : Bool) → option_map (λ v. v.items) (lookup (at_line q) es) ≡ lookup (bytes_eq q) (lists_of es)
          → option_map {U = List Waiting} (λ v. v.items) (cond b (Some e.1) (lookup (at_line q) es)) ≡ cond b (Some e.1.items) (lookup (bytes_eq q) (lists_of es))
      by true rest = refl
      by false rest = rest

  -- what is found at a key
  pub found-lists_of : (q : List ℕ) (es : List (Vec ℕ A × Vec Waiting B)) (r : Option (Bor (Vec Waiting B))) → option_map (λ p. p.now) r ≡ lookup (at_line q) es
      → option_map {U = List Waiting} (λ v. v.now.items) r ≡ lookup (bytes_eq q) (lists_of es)
  found-lists_of q es r h = copied r ∙ ap (option_map {U = List Waiting} (λ v. v.items)) h ∙ lookup-lists_of q es
    where
      copied : (r : Option (Bor (Vec Waiting B))) → option_map {U = List Waiting} (λ v. v.now.items) r ≡ option_map {U = List Waiting} (λ (v : Vec Waiting B). v.items) (option_map (λ p. p.now) r)
      copied None = refl
      copied (Some v) = refl

  -- what waits there
  pub list_at-found : (q : List ℕ) (es : List (Vec ℕ A × Vec Waiting B)) (w : Option (Vec Waiting B)) → w ≡ lookup (at_line q) es → items_in w ≡ list_at (lists_of es) q
  list_at-found q es w h = ap items_in h ∙ ap (λ o. unwrap_or o []) (lookup-lists_of q es)

  -- what waits at each key once one was set or taken out
  pub Sets-updated : (line : List ℕ) (m n : BTreeMap (Vec ℕ A) (Vec Waiting B)) (w : Option (Vec Waiting B)) → UpdatesBy line_cmp (λ k. slice_cmp nat_cmp line k.items) m n w
      → Sets line (items_in w) (lists_of m.entries) (lists_of n.entries)
  unfolding KeepsOthers
  Sets-updated line m n w u l = by (bytes_eq line l) refl
    where
      by : (b : Bool) → bytes_eq line l ≡ b → list_at (lists_of n.entries) l ≡ cond b (items_in w) (list_at (lists_of m.entries) l)
      by true same = ap (list_at (lists_of n.entries)) (sym ((bytes_decides line l).0 same)) ∙ sym (list_at-found line n.entries w (sym u.1))
      by false other =
          sym (list_at-found l n.entries (lookup (at_line l) n.entries) refl)
          ∙ ap items_in (u.3 (at_line {A = A} l) (is_line_test {A = A} l) (lines_apart {A = A} line l other))
          ∙ list_at-found l m.entries (lookup (at_line l) m.entries) refl

-- where nothing is set, nothing changes
pub Sets-same : (line : List ℕ) (w : List Waiting) (lists : Lists) → w ≡ list_at lists line → Sets line w lists lists
Sets-same line w lists is l = by (bytes_eq line l) refl
  where
    by : (b : Bool) → bytes_eq line l ≡ b → list_at lists l ≡ cond b w (list_at lists l)
    by true same = ap (list_at lists) (sym ((bytes_decides line l).0 same)) ∙ sym is
    by false other = refl

-- and where a key is set to what it had
pub AreAlike-set : (line : List ℕ) (w : List Waiting) (old new : Lists) → Sets line w old new → w ≡ list_at old line → AreAlike old new
AreAlike-set line w old new sets is l = by (bytes_eq line l) refl (sets l)
  where
    by : (b : Bool) → bytes_eq line l ≡ b → list_at new l ≡ cond b w (list_at old l) → list_at new l ≡ list_at old l
    by true same h = h ∙ is ∙ ap (list_at old) ((bytes_decides line l).0 same)
    by false other h = h
