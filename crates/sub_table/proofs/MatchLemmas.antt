-- Looking up each prefix of the octets finds the topics that they begin with.
use Rattle.std.proofs.Common.{◌≡◌, ◌∙◌, ℕ, zero, suc, Bool, true, false, min, ◌<◌, ◌≤◌, ◌+◌, ◌-◌, ◌||◌, ◌&&◌, List, length, take, nat_eq, nat_lt, refl, sym, ap, arith, add-one}
use Rattle.std.proofs.lemmas.Bool.{ltb-true, ltb-false}
use Rattle.std.proofs.lemmas.List.{length-take, take_min}
use Rattle.std.proofs.lemmas.List.Kept.{IsStrictlySortedBy-filter}
use Rattle.std.specs.Cmp.Lexicographic.{bytes_decides, nat_list_eq_equiv}
use Rattle.std.specs.List.{starts_with}
use Rattle.std.specs.List.Sorted.{IsStrictlySortedBy}
use Rattle.std.specs.Map.{keys_of}
use Rattle.std.specs.Ordering.{nat_cmp}
use Rattle.std.specs.Str.{bytes_eq}
use Rattle.spec_pattern.specs.Topics.{Topic, Subscribers, is_among, matches, topics_of, matching}
use Rattle.sub_table.specs.View.{is_peer}
use Rattle.sub_table.proofs.AnyLemmas.{any_gives, any_at, both_ways, sorted_same, is_peer-filter, row_is_key}
use Rattle.sub_table.proofs.RowLemmas.{row_of_topic}

-- one of the first n answers is yes
abbrev pub any_below : ℕ → (ℕ → Bool) → Bool
any_below zero f = false
any_below (suc n) f = any_below n f || f n

-- one more answer
pub any_below-more : (n : ℕ) (f : ℕ → Bool) → any_below (n + 1) f ≡ (any_below n f || f n)
any_below-more n f = ap (λ m. any_below m f) (add-one n)

any_below_gives : (n : ℕ) (f : ℕ → Bool) → any_below n f ≡ true → (i : ℕ) × (i < n) × (f i ≡ true)
any_below_gives zero f h = absurd (clash h)
  where
    clash : false ≡ true → ⊥
    clash e = cc
any_below_gives (suc n) f h = by (any_below n f) refl h (λ r. any_below_gives n f r)
  where
    by : (b : Bool) → any_below n f ≡ b → (b || f n) ≡ true → (any_below n f ≡ true → (i : ℕ) × (i < n) × (f i ≡ true)) → (i : ℕ) × (i < suc n) × (f i ≡ true)
    by true some h rest = let r = rest some in (r.0, below r.0 r.1, r.2)
      where
        below : (i : ℕ) → i < n → i < suc n
        below i l = omega arith
    by false none h rest = (n, omega arith, h)

-- an answer that is yes
pub any_below_at : (n : ℕ) (f : ℕ → Bool) (i : ℕ) → i < n → f i ≡ true → any_below n f ≡ true
any_below_at zero f i l is = absurd (omega arith)
any_below_at (suc n) f i l is = by (nat_lt i n) refl (λ k. any_below_at n f i k is)
  where
    or_true : (b : Bool) → (b || true) ≡ true
    or_true true = refl
    or_true false = refl

    by : (b : Bool) → nat_lt i n ≡ b → (i < n → any_below n f ≡ true) → (any_below n f || f n) ≡ true
    by true below rest = ap (λ b. b || f n) (rest (ltb-true i n below))
    by false past rest =
        let k : n ≤ i = ltb-false i n past in
        let e : i ≡ n = omega arith in
        ap (λ b. any_below n f || b) (sym (ap f e) ∙ is) ∙ or_true (any_below n f)

-- the octets begin with each of their fronts
starts_with-front : (octets : List ℕ) (i : ℕ) → starts_with nat_eq octets (take i octets) ≡ true
starts_with-front octets i =
    (bytes_decides (take i octets) (take (length (take i octets)) octets)).1
    (sym (take_min i octets) ∙ sym (ap (λ n. take n octets) (length-take i octets)))

-- a topic that the octets begin with is one of their fronts
front_is : (octets : List ℕ) (t : Topic) → starts_with nat_eq octets t ≡ true → (t ≡ take (length t) octets) × (length t ≤ length octets)
front_is octets t h =
    let e : t ≡ take (length t) octets = (bytes_decides t (take (length t) octets)).0 h in
    let l : length t ≡ min (length t) (length octets) = ap length e ∙ length-take (length t) octets in
    (e, omega arith)

-- topics match where a front of the octets is one of them
pub matches-fronts : (topics : List Topic) (octets : List ℕ) → any_below (length octets + 1) (λ i. is_among topics (take i octets)) ≡ matches topics octets
matches-fronts topics octets = both_ways _ _ there back
  where
    there : any_below (length octets + 1) (λ i. is_among topics (take i octets)) ≡ true → matches topics octets ≡ true
    there h =
        let r = any_below_gives (length octets + 1) (λ i. is_among topics (take i octets)) h in
        any_at bytes_eq (λ s t e. (bytes_decides s t).0 e) (λ t. starts_with nat_eq octets t) topics (take r.0 octets) r.2 (starts_with-front octets r.0)

    back : matches topics octets ≡ true → any_below (length octets + 1) (λ i. is_among topics (take i octets)) ≡ true
    back h =
        let r = any_gives bytes_eq nat_list_eq_equiv.refl (λ t. starts_with nat_eq octets t) topics h in
        let f = front_is octets r.0 r.2 in
        any_below_at (length octets + 1) (λ i. is_among topics (take i octets)) (length r.0)
        (let k : length r.0 ≤ length octets = f.1 in omega arith)
        (ap (is_among topics) (sym f.0) ∙ r.1)

-- answers that are no add nothing
any_below-plus : (d n : ℕ) (f : ℕ → Bool) → ((i : ℕ) → n ≤ i → i < d + n → f i ≡ false) → any_below (d + n) f ≡ any_below n f
any_below-plus zero n f none = ap (λ m. any_below m f) (nothing n)
  where
    nothing : (n : ℕ) → 0 + n ≡ n
    nothing n = omega arith
any_below-plus (suc d) n f none =
    ap (λ m. any_below m f) (next d n)
    ∙ (λ j. any_below-plus d n f (λ i l h. none i l (omega (arith, h))) j || none (d + n) (omega arith) (omega arith) j) ∙ or_false (any_below n f)
  where
    next : (d n : ℕ) → suc d + n ≡ suc (d + n)
    next d n = omega arith

    or_false : (b : Bool) → (b || false) ≡ b
    or_false true = refl
    or_false false = refl

any_below-gap : (n m : ℕ) (f : ℕ → Bool) → n ≤ m → ((i : ℕ) → n ≤ i → i < m → f i ≡ false) → any_below m f ≡ any_below n f
any_below-gap n m f up none =
    let e : m ≡ (m - n) + n = omega (arith, up) in
    ap (λ k. any_below k f) e ∙ any_below-plus (m - n) n f (λ i l h. none i l (omega (arith, e, h)))

-- the length of a front
front_length : (octets : List ℕ) (i : ℕ) → i ≤ length octets → length (take i octets) ≡ i
front_length octets i h = length-take i octets ∙ least (length octets) h
  where
    least : (n : ℕ) → i ≤ n → min i n ≡ i
    least n h = omega (arith, h)

module _ (octets : List ℕ) (test : Topic → Bool) where
  -- the next front that may pass
  pub any_below-next : (n end : ℕ) → n ≤ end → end ≤ length octets → ((t : Topic) → n ≤ length t → length t < end → test t ≡ false)
      → any_below (end + 1) (λ i. test (take i octets)) ≡ (any_below n (λ i. test (take i octets)) || test (take end octets))
  any_below-next n end up within none =
      any_below-more end (λ i. test (take i octets))
      ∙ ap (λ b. b || test (take end octets)) (any_below-gap n end (λ i. test (take i octets)) up
      (λ i l h. let e : length (take i octets) ≡ i = front_length octets i (omega (arith, h, within)) in none (take i octets) (omega (arith, e, l)) (omega (arith, e, h))))

  -- and where there is none
  pub any_below-last : (n : ℕ) → n ≤ length octets + 1 → ((t : Topic) → n ≤ length t → length t ≤ length octets → test t ≡ false)
      → any_below (length octets + 1) (λ i. test (take i octets)) ≡ any_below n (λ i. test (take i octets))
  any_below-last n up none =
      any_below-gap n (length octets + 1) (λ i. test (take i octets)) up
      (λ i l h. let e : length (take i octets) ≡ i = front_length octets i (omega (arith, h)) in none (take i octets) (omega (arith, e, l)) (omega (arith, e, h)))

-- peers that match have a row
matched_row : (subs : Subscribers ℕ) (octets : List ℕ) (q : ℕ) → (is_peer (keys_of subs) q && matches (topics_of nat_eq subs q) octets) ≡ matches (topics_of nat_eq subs q) octets
matched_row subs octets q = by (matches (topics_of nat_eq subs q) octets) refl
  where
    and_false : (b : Bool) → (b && false) ≡ false
    and_false true = refl
    and_false false = refl

    by : (b : Bool) → matches (topics_of nat_eq subs q) octets ≡ b → (is_peer (keys_of subs) q && b) ≡ b
    by true is =
        let r = any_gives bytes_eq nat_list_eq_equiv.refl (λ t. starts_with nat_eq octets t) (topics_of nat_eq subs q) is in
        ap (λ b. b && true) (sym (row_is_key q subs) ∙ row_of_topic subs q r.0 r.1)
    by false is = and_false (is_peer (keys_of subs) q)

-- the peers that were found, in the order of their numbers, are those that match, in the order in which they came
pub matching-found : (subs : Subscribers ℕ) (octets found : List ℕ) → IsStrictlySortedBy nat_cmp found → IsStrictlySortedBy nat_cmp (keys_of subs)
    → ((q : ℕ) → is_peer found q ≡ matches (topics_of nat_eq subs q) octets) → found ≡ matching nat_eq subs octets
matching-found subs octets found up rows same =
    sorted_same found (matching nat_eq subs octets) up (IsStrictlySortedBy-filter nat_cmp (λ p. matches (topics_of nat_eq subs p) octets) (keys_of subs) rows)
    (λ q. same q ∙ sym (matched_row subs octets q) ∙ sym (is_peer-filter (λ p. matches (topics_of nat_eq subs p) octets) (keys_of subs) q))
