-- Lists in which one element is changed or taken out.
use Rattle.std.proofs.Common.{◌≡◌, ◌∙◌, ◌+◌, ◌<◌, ◌&&◌, ◌||◌, ℕ, zero, suc, Bool, true, false, cond, not, List, [], ◌∷◌, ◌++◌, All, None, Some, length, length-append, set, drop, refl, sym, ap, one-add, arith, nat_lt, true≢false, subst}
use Rattle.std.specs.Prelude.{slice_index_or, remove, position, flat_map, map}
use Rattle.std.specs.List.{list_any, position_or_len}
use Rattle.std.proofs.lemmas.Bool.Decides.{nat_tests, Decides-ltb}
use Rattle.std.proofs.lemmas.Option.{cond_some}
use Rattle.std.proofs.lemmas.List.Elements.{All-nil, All-cons, All-head, All-tail}
use Rattle.closed_ends.specs.Finding.{IsFirst}

pub never : {X : Type 0} → true ≡ false → X
never e = absurd (true≢false e)

pub and_false : (b : Bool) → (b && false) ≡ false
and_false true = refl
and_false false = refl

module _ {X : Type 0} where
  -- ---- the first that passes

  at_first : (test : X → Bool) (xs : List X) → position_or_len test xs < length xs → IsFirst test xs (position_or_len test xs)
  at_first test [] lt = absurd (omega arith)
  at_first test (x ∷ xs) lt = by (λ l. at_first test xs l) (test x) refl lt
    where
      by : (position_or_len test xs < length xs → IsFirst test xs (position_or_len test xs)) → (b : Bool) → test x ≡ b → cond (not b) (1 + position_or_len test xs) 0 < length (x ∷ xs)
          → IsFirst test (x ∷ xs) (cond (not b) (1 + position_or_len test xs) 0)
      by rest true e lt = record { before = []; one = x; behind = xs; are = refl; at = refl; others = All-nil (λ (y : X). test y ≡ false); is = e }
      by rest false e lt =
          let r = rest (omega (arith, lt)) in
          record {
            before = x ∷ r.before;
            one = r.one;
            behind = r.behind;
            are = ap (λ (l : List X). x ∷ l) r.are;
            at = ap suc r.at ∙ sym (one-add (position_or_len test xs));
            others = All-cons (λ (y : X). test y ≡ false) x r.before e r.others;
            is = r.is;
          }

  pub first_of : (test : X → Bool) (xs : List X) (k : ℕ) → position test xs ≡ Some k → IsFirst test xs k
  first_of test xs k e =
      let f = cond_some (nat_lt (position_or_len test xs) (length xs)) (position_or_len test xs) k e in
      subst (IsFirst test xs) f.1 (at_first test xs ((Decides-ltb (position_or_len test xs) (length xs)).0 f.0))

  any_within : (test : X → Bool) (xs : List X) → list_any test xs ≡ nat_lt (position_or_len test xs) (length xs)
  any_within test [] = refl
  any_within test (x ∷ xs) = by (test x) (any_within test xs)
    where
      first_within : (n : ℕ) → true ≡ nat_lt 0 (suc n)
      first_within n = grind (arith, nat_tests)

      one_later : (m n : ℕ) → nat_lt m n ≡ nat_lt (1 + m) (suc n)
      one_later m n = grind (arith, nat_tests)

      by : (b : Bool) → list_any test xs ≡ nat_lt (position_or_len test xs) (length xs)
          → (b || list_any test xs) ≡ nat_lt (cond (not b) (1 + position_or_len test xs) 0) (length (x ∷ xs))
      by true rest = first_within (length xs)
      by false rest = rest ∙ one_later (position_or_len test xs) (length xs)

  pub none_first : (test : X → Bool) (xs : List X) → position test xs ≡ None → list_any test xs ≡ false
  none_first test xs e = any_within test xs ∙ by (nat_lt (position_or_len test xs) (length xs)) e
    where
      by : (b : Bool) → cond b (Some (position_or_len test xs)) None ≡ None → b ≡ false
      by true e = cc
      by false e = refl

  -- which is first depends on what passes alone
  pub first_same : (test : X → Bool) (before behind : List X) (x y : X) → test y ≡ test x → position_or_len test (before ++ y ∷ behind) ≡ position_or_len test (before ++ x ∷ behind)
  first_same test [] behind x y same = ap (λ (b : Bool). cond (not b) (1 + position_or_len test behind) 0) same
  first_same test (z ∷ before) behind x y same = ap (λ (n : ℕ). cond (not (test z)) (1 + n) 0) (first_same test before behind x y same)

  pub as_long : (before behind : List X) (x y : X) → length (before ++ y ∷ behind) ≡ length (before ++ x ∷ behind)
  as_long [] behind x y = refl
  as_long (z ∷ before) behind x y = ap suc (as_long before behind x y)

  pub position_same : (test : X → Bool) (before behind : List X) (x y : X) → test y ≡ test x → position test (before ++ y ∷ behind) ≡ position test (before ++ x ∷ behind)
  position_same test before behind x y same =
      ap (λ (n : ℕ). cond (nat_lt (position_or_len test (before ++ y ∷ behind)) n) (Some (position_or_len test (before ++ y ∷ behind))) None) (as_long before behind x y)
      ∙ ap (λ (n : ℕ). cond (nat_lt n (length (before ++ x ∷ behind))) (Some n) None) (first_same test before behind x y same)

  -- ---- the one at a place

  pub set_there : (before behind : List X) (x y : X) (k : ℕ) → length before ≡ k → set (before ++ x ∷ behind) k y ≡ before ++ y ∷ behind
  set_there [] behind x y zero e = refl
  set_there [] behind x y (suc k) e = cc
  set_there (z ∷ before) behind x y zero e = cc
  set_there (z ∷ before) behind x y (suc k) e = ap (λ (l : List X). z ∷ l) (set_there before behind x y k (omega (arith, e)))

  pub index_there : (before behind : List X) (x d : X) (k : ℕ) → length before ≡ k → slice_index_or (before ++ x ∷ behind) k d ≡ x
  index_there [] behind x d zero e = refl
  index_there [] behind x d (suc k) e = cc
  index_there (z ∷ before) behind x d zero e = cc
  index_there (z ∷ before) behind x d (suc k) e = index_there before behind x d k (omega (arith, e))

  pub remove_there : (before behind : List X) (x : X) (k : ℕ) → length before ≡ k → remove (before ++ x ∷ behind) k ≡ before ++ behind
  remove_there [] behind x zero e = refl
  remove_there [] behind x (suc k) e = cc
  remove_there (z ∷ before) behind x zero e = cc
  remove_there (z ∷ before) behind x (suc k) e = ap (λ (l : List X). z ∷ l) (remove_there before behind x k (omega (arith, e)))

  pub within : (before behind : List X) (x : X) (k : ℕ) → length before ≡ k → k < length (before ++ x ∷ behind)
  within before behind x k e = let n = length-append before (x ∷ behind) in omega (arith, n, e)

  -- ---- one among others

  -- what is said of any of them
  pub any_same : (f : X → Bool) (before behind : List X) (x y : X) → f y ≡ f x → list_any f (before ++ y ∷ behind) ≡ list_any f (before ++ x ∷ behind)
  any_same f [] behind x y same = ap (λ (b : Bool). b || list_any f behind) same
  any_same f (z ∷ before) behind x y same = ap (λ (b : Bool). f z || b) (any_same f before behind x y same)

  pub any_without : (f : X → Bool) (before behind : List X) (x : X) → f x ≡ false → list_any f (before ++ behind) ≡ list_any f (before ++ x ∷ behind)
  any_without f [] behind x off = sym (ap (λ (b : Bool). b || list_any f behind) off)
  any_without f (z ∷ before) behind x off = ap (λ (b : Bool). f z || b) (any_without f before behind x off)

  pub any_more : (f : X → Bool) (xs : List X) (x : X) → f x ≡ false → list_any f (xs ++ x ∷ []) ≡ list_any f xs
  any_more f [] x off = ap (λ (b : Bool). b || false) off
  any_more f (z ∷ xs) x off = ap (λ (b : Bool). f z || b) (any_more f xs x off)

  pub none_any : (f : X → Bool) (xs : List X) → All (λ x. f x ≡ false) xs → list_any f xs ≡ false
  none_any f [] none = refl
  none_any f (x ∷ xs) none = ap (λ (b : Bool). b || list_any f xs) (All-head (λ (y : X). f y ≡ false) x xs none) ∙ none_any f xs (All-tail (λ (y : X). f y ≡ false) x xs none)

  pub skipped : (f : X → Bool) (xs ys : List X) → All (λ x. f x ≡ false) xs → list_any f (xs ++ ys) ≡ list_any f ys
  skipped f [] ys none = refl
  skipped f (x ∷ xs) ys none = ap (λ (b : Bool). b || list_any f (xs ++ ys)) (All-head (λ (y : X). f y ≡ false) x xs none) ∙ skipped f xs ys (All-tail (λ (y : X). f y ≡ false) x xs none)

  pub any_grows : (f : X → Bool) (before behind : List X) (x y : X) → (f x ≡ true → f y ≡ true) → list_any f (before ++ x ∷ behind) ≡ true → list_any f (before ++ y ∷ behind) ≡ true
  any_grows f [] behind x y grows h = by (f x) (f y) grows h
    where
      by : (b c : Bool) → (b ≡ true → c ≡ true) → (b || list_any f behind) ≡ true → (c || list_any f behind) ≡ true
      by b true more k = refl
      by true false more k = never (sym (more refl))
      by false false more k = k
  any_grows f (z ∷ before) behind x y grows h = by (f z) h (any_grows f before behind x y grows)
    where
      by : (b : Bool) → (b || list_any f (before ++ x ∷ behind)) ≡ true → (list_any f (before ++ x ∷ behind) ≡ true → list_any f (before ++ y ∷ behind) ≡ true) → (b || list_any f (before ++ y ∷ behind)) ≡ true
      by true k later = refl
      by false k later = later k

  pub any_here : (f : X → Bool) (before behind : List X) (x : X) → f x ≡ true → list_any f (before ++ x ∷ behind) ≡ true
  any_here f [] behind x is = ap (λ (b : Bool). b || list_any f behind) is
  any_here f (z ∷ before) behind x is = ap (λ (b : Bool). f z || b) (any_here f before behind x is) ∙ by (f z)
    where
      by : (b : Bool) → (b || true) ≡ true
      by true = refl
      by false = refl

  pub any_front : (f : X → Bool) (xs ys : List X) → list_any f xs ≡ true → list_any f (xs ++ ys) ≡ true
  any_front f [] ys h = never (sym h)
  any_front f (x ∷ xs) ys h = by (any_front f xs ys) (f x) h
    where
      by : (list_any f xs ≡ true → list_any f (xs ++ ys) ≡ true) → (b : Bool) → (b || list_any f xs) ≡ true → (b || list_any f (xs ++ ys)) ≡ true
      by later true k = refl
      by later false k = later k

  pub any_back : (f : X → Bool) (xs ys : List X) → list_any f ys ≡ true → list_any f (xs ++ ys) ≡ true
  any_back f [] ys h = h
  any_back f (x ∷ xs) ys h = ap (λ (b : Bool). f x || b) (any_back f xs ys h) ∙ by (f x)
    where
      by : (b : Bool) → (b || true) ≡ true
      by true = refl
      by false = refl

  -- ---- all but one

  pub all_front : (P : X → Type 0) (xs ys : List X) → All P (xs ++ ys) → All P xs
  all_front P [] ys h = All-nil P
  all_front P (x ∷ xs) ys h = All-cons P x xs (All-head P x (xs ++ ys) h) (all_front P xs ys (All-tail P x (xs ++ ys) h))

  pub all_back : (P : X → Type 0) (xs ys : List X) → All P (xs ++ ys) → All P ys
  all_back P [] ys h = h
  all_back P (x ∷ xs) ys h = all_back P xs ys (All-tail P x (xs ++ ys) h)

  pub all_both : (P : X → Type 0) (xs ys : List X) → All P xs → All P ys → All P (xs ++ ys)
  all_both P [] ys h k = k
  all_both P (x ∷ xs) ys h k = All-cons P x (xs ++ ys) (All-head P x xs h) (all_both P xs ys (All-tail P x xs h) k)

  pub parts : (pre front rs back post : List X) → pre ++ ((front ++ (rs ++ back)) ++ post) ≡ (pre ++ front) ++ (rs ++ (back ++ post))
  parts [] [] [] back post = refl
  parts [] [] (r ∷ rs) back post = ap (λ (l : List X). r ∷ l) (parts [] [] rs back post)
  parts [] (f ∷ front) rs back post = ap (λ (l : List X). f ∷ l) (parts [] front rs back post)
  parts (p ∷ pre) front rs back post = ap (λ (l : List X). p ∷ l) (parts pre front rs back post)

  pub same_ends : (xs ys zs : List X) → (xs ++ ys) ++ zs ≡ xs ++ (ys ++ zs)
  same_ends [] ys zs = refl
  same_ends (x ∷ xs) ys zs = ap (λ (l : List X). x ∷ l) (same_ends xs ys zs)

pub nil_behind : {X : Type 0} (xs : List X) → xs ++ [] ≡ xs
nil_behind [] = refl
nil_behind (x ∷ xs) = ap (λ (l : List _). x ∷ l) (nil_behind xs)

-- what stands behind a front
pub behind_front : {X : Type 0} (xs more ys : List X) → ys ≡ xs ++ more → ys ≡ xs ++ drop (length xs) ys
behind_front xs more ys e = e ∙ sym (ap (λ (l : List _). xs ++ drop (length xs) l) e ∙ ap (λ (l : List _). xs ++ l) (dropped xs))
  where
    dropped : (zs : List _) → drop (length zs) (zs ++ more) ≡ more
    dropped [] = refl
    dropped (z ∷ zs) = dropped zs

pub mapped : {X Y : Type 0} (f : X → Y) (xs ys : List X) → map f (xs ++ ys) ≡ map f xs ++ map f ys
mapped f [] ys = refl
mapped f (x ∷ xs) ys = ap (λ (l : List _). f x ∷ l) (mapped f xs ys)

pub all_flat : {X Y : Type 0} (f : X → List Y) (xs : List X) (x : X) (zs : List X) → flat_map f (xs ++ x ∷ zs) ≡ flat_map f xs ++ (f x ++ flat_map f zs)
all_flat f [] x zs = refl
all_flat f (y ∷ ys) x zs = ap (λ (l : List _). f y ++ l) (all_flat f ys x zs) ∙ sym (same_ends (f y) (flat_map f ys) (f x ++ flat_map f zs))
