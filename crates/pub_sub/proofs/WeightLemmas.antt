-- How many topics a peer has to be told: each that it is told is one less.
use Rattle.std.proofs.Common.{◌≡◌, ◌∙◌, ℕ, suc, ◌<◌, ◌≤◌, Bool, true, false, not, cond, ◌||◌, List, [], ◌∷◌, length, filter, Option, Some, None, refl, sym, ap, subst, inl, inr, ◌==◌, arith}
use Rattle.std.specs.BTreeSet.{insert_key}
use Rattle.std.specs.Cmp.Lexicographic.{slice_cmp, bytes_decides, nat_list_eq_equiv}
use Rattle.std.specs.Map.{keys_of}
use Rattle.std.specs.Ordering.{nat_cmp, match_ordering, eq_by_cmp, is_eq, is_lt}
use Rattle.std.specs.Prelude.{find, ◌⊎◌}
use Rattle.std.specs.Set.{remove_key}
use Rattle.std.specs.Str.{bytes_eq}
use Rattle.std.specs.declared.cmp.Ordering.{Ordering}
use Rattle.std.specs.declared.cmp.Ordering.TheVariants.{Less, Equal, Greater}
use Rattle.spec_pattern.specs.Topics.{Topic, topic_cmp, is_among, with_topic, without_topic}
use Rattle.spec_pattern.specs.Wanted.{Wanted, wants, first_of, first_untold, first_unwanted, difference}
use Rattle.spec_pattern.specs.Subscribing.{told_after}
use Rattle.sub_table.proofs.CountLemmas.{found_is_key}
use Rattle.sub_table.proofs.ViewLemmas.{octets_ties}
use Rattle.pub_sub.specs.Telling.{weight}

or_true : (b : Bool) → (b || true) ≡ true
or_true true = refl
or_true false = refl

here : (t : Topic) (ts : List Topic) → is_among (t ∷ ts) t ≡ true
here t ts = ap (λ b. b || is_among ts t) (nat_list_eq_equiv.refl t)

later : (t u : Topic) (ts : List Topic) → is_among ts u ≡ true → is_among (t ∷ ts) u ≡ true
later t u ts there = ap (λ b. bytes_eq u t || b) there ∙ or_true (bytes_eq u t)

-- ---- of two tests, the one that passes less keeps no more

filter-no_more : (p q : Topic → Bool) (ts : List Topic) → ((t : Topic) → is_among ts t ≡ true → q t ≡ true → p t ≡ true) → length (filter q ts) ≤ length (filter p ts)
filter-no_more p q [] less = omega arith
filter-no_more p q (t ∷ ts) less = by (q t) refl (p t) refl (filter-no_more p q ts (λ u in_ h. less u (later t u ts in_) h))
  where
    by : (a : Bool) → q t ≡ a → (b : Bool) → p t ≡ b → length (filter q ts) ≤ length (filter p ts)
        → length (cond a (t ∷ filter q ts) (filter q ts)) ≤ length (cond b (t ∷ filter p ts) (filter p ts))
    by true qt true pt r = omega arith
    by true qt false pt r = absurd (let e : p t ≡ true = less t (here t ts) qt in (cc))
    by false qt true pt r = omega arith
    by false qt false pt r = r

-- and fewer, where it fails at one that the other passes
filter-fewer : (p q : Topic → Bool) (x : Topic) (ts : List Topic) → ((t : Topic) → is_among ts t ≡ true → q t ≡ true → p t ≡ true) → is_among ts x ≡ true → p x ≡ true → q x ≡ false
    → length (filter q ts) < length (filter p ts)
filter-fewer p q x [] less there px qx = absurd (cc)
filter-fewer p q x (t ∷ ts) less there px qx =
    by (bytes_eq x t) refl there (q t) refl (p t) refl (λ r. filter-fewer p q x ts (λ u in_ h. less u (later t u ts in_) h) r px qx)
    (filter-no_more p q ts (λ u in_ h. less u (later t u ts in_) h))
  where
    by : (h : Bool) → bytes_eq x t ≡ h → (h || is_among ts x) ≡ true → (a : Bool) → q t ≡ a → (b : Bool) → p t ≡ b
        → (is_among ts x ≡ true → length (filter q ts) < length (filter p ts)) → length (filter q ts) ≤ length (filter p ts)
        → length (cond a (t ∷ filter q ts) (filter q ts)) < length (cond b (t ∷ filter p ts) (filter p ts))
    by true same there true qt b pt r l = absurd (let e : q x ≡ true = ap q ((bytes_decides x t).0 same) ∙ qt in (cc))
    by true same there false qt true pt r l = omega arith
    by true same there false qt false pt r l = absurd (let e : p x ≡ false = ap p ((bytes_decides x t).0 same) ∙ pt in (cc))
    by false other there true qt true pt r l = let s : length (filter q ts) < length (filter p ts) = r there in omega arith
    by false other there true qt false pt r l = absurd (let e : p t ≡ true = less t (here t ts) qt in (cc))
    by false other there false qt true pt r l = omega arith
    by false other there false qt false pt r l = r there

-- ---- what is found

find_gives : (test : Topic → Bool) (xs : List Topic) (u : Topic) → find test xs ≡ Some u → (is_among xs u ≡ true) × (test u ≡ true)
find_gives test [] u found = absurd (cc)
find_gives test (x ∷ xs) u found = by (test x) refl found (λ r. find_gives test xs u r)
  where
    some_is : (x u : Topic) → Some x ≡ Some u → x ≡ u
    some_is x u e = cc

    by : (b : Bool) → test x ≡ b → cond b (Some x) (find test xs) ≡ Some u
        → (find test xs ≡ Some u → (is_among xs u ≡ true) × (test u ≡ true)) → (is_among (x ∷ xs) u ≡ true) × (test u ≡ true)
    by true passed found rest = let e : x ≡ u = some_is x u found in
        (ap (λ v. bytes_eq u v || is_among xs u) e ∙ here u xs, sym (ap test e) ∙ passed)
    by false fails found rest = let r = rest found in (later x u xs r.0, r.1)

-- ---- a topic is told

pub ties : (n x : Topic) → slice_cmp nat_cmp n x ≡ Equal → bytes_eq n x ≡ true
ties n x is = sym (octets_ties n x) ∙ tied is
  where
    tied : slice_cmp nat_cmp n x ≡ Equal → eq_by_cmp (slice_cmp nat_cmp) n x ≡ true
    tied e = ap is_eq e

-- it is among those that were told
among_told : (n : Topic) (ts : List Topic) → is_among (insert_key (slice_cmp nat_cmp) ts n) n ≡ true
among_told n [] = here n []
among_told n (x ∷ xs) = by (slice_cmp nat_cmp n x) refl (among_told n xs)
  where
    by : (o : Ordering) → slice_cmp nat_cmp n x ≡ o → is_among (insert_key (slice_cmp nat_cmp) xs n) n ≡ true
        → is_among (match_ordering o (n ∷ x ∷ xs) (x ∷ xs) (x ∷ insert_key (slice_cmp nat_cmp) xs n)) n ≡ true
    by Less is r = here n (x ∷ xs)
    by Equal is r = ap (λ b. b || is_among xs n) (ties n x is)
    by Greater is r = later x n (insert_key (slice_cmp nat_cmp) xs n) r

-- and the others still are
still_told : (n t : Topic) (ts : List Topic) → is_among ts t ≡ true → is_among (insert_key (slice_cmp nat_cmp) ts n) t ≡ true
still_told n t [] there = absurd (cc)
still_told n t (x ∷ xs) there = by (slice_cmp nat_cmp n x) (λ r. still_told n t xs r)
  where
    behind : (b c d : Bool) → (b || c) ≡ true → (c ≡ true → d ≡ true) → (b || d) ≡ true
    behind true c d h k = refl
    behind false c d h k = k h

    by : (o : Ordering) → (is_among xs t ≡ true → is_among (insert_key (slice_cmp nat_cmp) xs n) t ≡ true)
        → is_among (match_ordering o (n ∷ x ∷ xs) (x ∷ xs) (x ∷ insert_key (slice_cmp nat_cmp) xs n)) t ≡ true
    by Less r = later n t (x ∷ xs) there
    by Equal r = there
    by Greater r = behind (bytes_eq t x) (is_among xs t) (is_among (insert_key (slice_cmp nat_cmp) xs n) t) there r

-- a test that it fails keeps what it kept
filter-insert : (q : Topic → Bool) (n : Topic) (ts : List Topic) → q n ≡ false → filter q (insert_key (slice_cmp nat_cmp) ts n) ≡ filter q ts
filter-insert q n [] fails = ap (λ b. cond b (n ∷ []) []) fails
filter-insert q n (x ∷ xs) fails = by (slice_cmp nat_cmp n x) (filter-insert q n xs fails)
  where
    by : (o : Ordering) → filter q (insert_key (slice_cmp nat_cmp) xs n) ≡ filter q xs
        → filter q (match_ordering o (n ∷ x ∷ xs) (x ∷ xs) (x ∷ insert_key (slice_cmp nat_cmp) xs n)) ≡ filter q (x ∷ xs)
    by Less r = ap (λ b. cond b (n ∷ filter q (x ∷ xs)) (filter q (x ∷ xs))) fails
    by Equal r = refl
    by Greater r = ap (λ l. cond (q x) (x ∷ l) l) r

falls-new : (wanted : Wanted) (told : List Topic) (n : Topic) → is_among (keys_of wanted) n ≡ true → is_among told n ≡ false → weight wanted (with_topic n told) < weight wanted told
falls-new wanted told n there new =
    let a : length (filter (λ t. not (is_among (with_topic n told) t)) (keys_of wanted)) < length (filter (λ t. not (is_among told t)) (keys_of wanted)) =
    filter-fewer (λ t. not (is_among told t)) (λ t. not (is_among (with_topic n told) t)) n (keys_of wanted) (λ t in_ h. back t h) there (ap not new) (ap not (among_told n told)) in
    let b : length (filter (λ t. not (wants wanted t)) (with_topic n told)) ≡ length (filter (λ t. not (wants wanted t)) told) =
    ap length (filter-insert (λ t. not (wants wanted t)) n told (ap not (found_is_key (bytes_eq n) wanted ∙ there))) in
    omega arith
  where
    back : (t : Topic) → not (is_among (with_topic n told) t) ≡ true → not (is_among told t) ≡ true
    back t h = by (is_among told t) refl
      where
        by : (b : Bool) → is_among told t ≡ b → not b ≡ true
        by true in_ = absurd (let e : is_among (with_topic n told) t ≡ true = still_told n t told in_ in (cc))
        by false out = refl

-- ---- a topic is told to be wanted no longer

-- the others are as they were
others_stay : (g t : Topic) (ts : List Topic) → bytes_eq g t ≡ false → is_among (remove_key (bytes_eq g) ts) t ≡ is_among ts t
others_stay g t [] other = refl
others_stay g t (x ∷ xs) other = by (bytes_eq g x) refl (others_stay g t xs other)
  where
    by : (b : Bool) → bytes_eq g x ≡ b → is_among (remove_key (bytes_eq g) xs) t ≡ is_among xs t
        → is_among (cond b xs (x ∷ remove_key (bytes_eq g) xs)) t ≡ (bytes_eq t x || is_among xs t)
    by true same r = ap (λ b. b || is_among xs t) (sym (nat_list_eq_equiv.symm t x ∙ ap (λ u. bytes_eq u t) (sym ((bytes_decides g x).0 same)) ∙ other))
    by false is r = ap (λ b. bytes_eq t x || b) r

-- a test that it passes keeps fewer
filter-removed : (q : Topic → Bool) (g : Topic) (ts : List Topic) → q g ≡ true → is_among ts g ≡ true → length (filter q (remove_key (bytes_eq g) ts)) < length (filter q ts)
filter-removed q g [] passes there = absurd (cc)
filter-removed q g (x ∷ xs) passes there = by (bytes_eq g x) refl there (q x) refl (λ r. filter-removed q g xs passes r)
  where
    by : (b : Bool) → bytes_eq g x ≡ b → (b || is_among xs g) ≡ true → (c : Bool) → q x ≡ c
        → (is_among xs g ≡ true → length (filter q (remove_key (bytes_eq g) xs)) < length (filter q xs))
        → length (filter q (cond b xs (x ∷ remove_key (bytes_eq g) xs))) < length (cond c (x ∷ filter q xs) (filter q xs))
    by true same there true qx r = omega arith
    by true same there false qx r = absurd (let e : q x ≡ true = sym (ap q ((bytes_decides g x).0 same)) ∙ passes in (cc))
    by false other there true qx r =
        let e : length (filter q (x ∷ remove_key (bytes_eq g) xs)) ≡ suc (length (filter q (remove_key (bytes_eq g) xs))) = ap (λ b. length (cond b (x ∷ filter q (remove_key (bytes_eq g) xs)) (filter q (remove_key (bytes_eq g) xs)))) qx in
        let l : length (filter q (remove_key (bytes_eq g) xs)) < length (filter q xs) = r there in
        omega arith
    by false other there false qx r =
        let e : length (filter q (x ∷ remove_key (bytes_eq g) xs)) ≡ length (filter q (remove_key (bytes_eq g) xs)) = ap (λ b. length (cond b (x ∷ filter q (remove_key (bytes_eq g) xs)) (filter q (remove_key (bytes_eq g) xs)))) qx in
        let l : length (filter q (remove_key (bytes_eq g) xs)) < length (filter q xs) = r there in
        omega arith

falls-gone : (wanted : Wanted) (told : List Topic) (g : Topic) → is_among told g ≡ true → wants wanted g ≡ false → weight wanted (without_topic g told) < weight wanted told
falls-gone wanted told g there gone =
    let a : length (filter (λ t. not (is_among (without_topic g told) t)) (keys_of wanted)) ≤ length (filter (λ t. not (is_among told t)) (keys_of wanted)) =
    filter-no_more (λ t. not (is_among told t)) (λ t. not (is_among (without_topic g told) t)) (keys_of wanted) (λ t in_ h. ap not (sym (others_stay g t told (apart t in_))) ∙ h) in
    let b : length (filter (λ t. not (wants wanted t)) (without_topic g told)) < length (filter (λ t. not (wants wanted t)) told) =
    filter-removed (λ t. not (wants wanted t)) g told (ap not gone) there in
    omega arith
  where
    apart : (t : Topic) → is_among (keys_of wanted) t ≡ true → bytes_eq g t ≡ false
    apart t in_ = by (bytes_eq g t) refl
      where
        by : (b : Bool) → bytes_eq g t ≡ b → b ≡ false
        by true same = absurd (
            let e : wants wanted g ≡ true = ap (wants wanted) ((bytes_decides g t).0 same) ∙ found_is_key (bytes_eq t) wanted ∙ in_ in
            (cc)
            )
        by false other = refl

is_false : (b : Bool) → not b ≡ true → b ≡ false
is_false true h = absurd (cc)
is_false false h = refl

-- a difference is wanted and wasn't told, or was told and isn't wanted
pub difference_is : (wanted : Wanted) (told : List Topic) (change : ℕ × Topic) → difference told wanted ≡ Some change
    → ((change.0 ≡ 1) × (is_among (keys_of wanted) change.1 ≡ true) × (is_among told change.1 ≡ false)) ⊎ ((change.0 ≡ 0) × (is_among told change.1 ≡ true) × (wants wanted change.1 ≡ false))
difference_is wanted told change is = by (first_untold told wanted) refl (first_unwanted told wanted) refl is
  where
    Result : ℕ × Topic → Type 0
    Result c = ((c.0 ≡ 1) × (is_among (keys_of wanted) c.1 ≡ true) × (is_among told c.1 ≡ false)) ⊎ ((c.0 ≡ 0) × (is_among told c.1 ≡ true) × (wants wanted c.1 ≡ false))

    some_is : (x y : ℕ × Topic) → Some x ≡ Some y → x ≡ y
    some_is x y e = cc

    new : (n : Topic) → first_untold told wanted ≡ Some n → Some (1, n) ≡ Some change → Result change
    new n found e =
        let f = find_gives (λ t. not (is_among told t)) (keys_of wanted) n found in
        subst Result (some_is (1, n) change e) (inl (refl, f.0, is_false (is_among told n) f.1))

    gone : (g : Topic) → first_unwanted told wanted ≡ Some g → Some (0, g) ≡ Some change → Result change
    gone g found e =
        let f = find_gives (λ t. not (wants wanted t)) told g found in
        subst Result (some_is (0, g) change e) (inr (refl, f.0, is_false (wants wanted g) f.1))

    choose : (n g : Topic) (b : Bool) → first_untold told wanted ≡ Some n → first_unwanted told wanted ≡ Some g → cond b (Some (1, n)) (Some (0, g)) ≡ Some change → Result change
    choose n g true a b e = new n a e
    choose n g false a b e = gone g b e

    by : (a : Option Topic) → first_untold told wanted ≡ a → (b : Option Topic) → first_unwanted told wanted ≡ b → first_of a b ≡ Some change → Result change
    by None a None b e = absurd (cc)
    by None a (Some g) b e = gone g b e
    by (Some n) a None b e = new n a e
    by (Some n) a (Some g) b e = choose n g (is_lt (topic_cmp n g)) a b e

-- each difference that is told is one less
pub weight-falls : (wanted : Wanted) (told : List Topic) (change : ℕ × Topic) → difference told wanted ≡ Some change → weight wanted (told_after change told) < weight wanted told
weight-falls wanted told change is = by change (difference_is wanted told change is)
  where
    by : (c : ℕ × Topic) → ((c.0 ≡ 1) × (is_among (keys_of wanted) c.1 ≡ true) × (is_among told c.1 ≡ false)) ⊎ ((c.0 ≡ 0) × (is_among told c.1 ≡ true) × (wants wanted c.1 ≡ false))
        → weight wanted (told_after c told) < weight wanted told
    by c (inl new) = subst (λ b. weight wanted (cond b (with_topic c.1 told) (without_topic c.1 told)) < weight wanted told) (sym (ap (λ n. n == 1) new.0)) (falls-new wanted told c.1 new.1 new.2)
    by c (inr gone) = subst (λ b. weight wanted (cond b (with_topic c.1 told) (without_topic c.1 told)) < weight wanted told) (sym (ap (λ n. n == 1) gone.0)) (falls-gone wanted told c.1 gone.1 gone.2)
