-- The first suspect in order is the least topic of the difference.
use Rattle.std.proofs.Common.{◌≡◌, ◌∙◌, ◌⊎◌, inl, inr, Bool, true, false, not, cond, ◌||◌, List, [], ◌∷◌, find, Option, Some, None, refl, sym, ap, subst}
use mathlib.Core.Bool.{beq}
use Rattle.std.proofs.lemmas.Cmp.{nat_list_cmp_total}
use Rattle.std.proofs.lemmas.Map.Keys.{sorted_head}
use Rattle.std.specs.Cmp.Lexicographic.{bytes_decides, nat_list_eq_equiv}
use Rattle.std.specs.List.{AllByRecursion}
use Rattle.std.specs.List.Sorted.{IsStrictlySortedBy}
use Rattle.std.specs.Map.{keys_of}
use Rattle.std.specs.Ordering.{is_lt, ordering_reverse}
use Rattle.std.specs.declared.cmp.Ordering.TheVariants.{Less, Greater}
use Rattle.std.specs.Str.{bytes_eq}
use Rattle.spec_pattern.specs.Topics.{Topic, topic_cmp, AreInOrder, is_among}
use Rattle.spec_pattern.specs.Wanted.{Wanted, wants, first_of, first_untold, first_unwanted, difference}
use Rattle.sub_table.specs.Telling.{ToldState, Differs, IsKnown, IsSettled, IsStale}
use Rattle.sub_table.proofs.CountLemmas.{found_is_key}

clash : {P : Type 0} → false ≡ true → P
clash e = absurd (cc)

first_differs : (wanted : Wanted) (s : ToldState) (t : Topic) (rest : List Topic) → s.suspects ≡ t ∷ rest → AreInOrder s.told → AreInOrder (keys_of wanted)
    → wants wanted t ≡ not (is_among s.told t) → IsStale wanted s false
first_differs wanted s t rest is o p differs = λ u more there.
    subst (Differs wanted s.told) (head_is t u rest more (sym is ∙ there)) (record { differs = differs; told_order = o; wanted_order = p })
  where
    head_is : (t u : Topic) (rest more : List Topic) → t ∷ rest ≡ u ∷ more → t ≡ u
    head_is t u rest more e = cc

-- whether the first suspect is stale, by two tests
pub IsStale-by : (h w : Bool) (wanted : Wanted) (s : ToldState) (t : Topic) (rest : List Topic) → s.suspects ≡ t ∷ rest
    → AreInOrder s.told → AreInOrder (keys_of wanted) → h ≡ is_among s.told t → w ≡ wants wanted t → IsStale wanted s (beq h w)
IsStale-by true true wanted s t rest is o p told want = (t, rest, is, sym want ∙ told)
IsStale-by true false wanted s t rest is o p told want = first_differs wanted s t rest is o p (sym want ∙ ap not told)
IsStale-by false true wanted s t rest is o p told want = first_differs wanted s t rest is o p (sym want ∙ ap not told)
IsStale-by false false wanted s t rest is o p told want = (t, rest, is, sym want ∙ told)

-- ---- order

greater : (s t : Topic) → topic_cmp s t ≡ Less → topic_cmp t s ≡ Greater
greater s t h = nat_list_cmp_total.antisymm t s ∙ ap ordering_reverse h

never_both : (s t : Topic) → topic_cmp s t ≡ Less → topic_cmp t s ≡ Less → ⊥
never_both s t h k = by (sym (greater s t h) ∙ k)
  where
    by : Greater ≡ Less → ⊥
    by e = cc

-- one of topics in order is the first, or behind it
behind_first : (t u : Topic) (rest : List Topic) → AllByRecursion (λ y. topic_cmp t y ≡ Less) rest → is_among (t ∷ rest) u ≡ true → (t ≡ u) ⊎ (topic_cmp t u ≡ Less)
behind_first t u rest up there = by (bytes_eq u t) refl there
  where
    later : (ys : List Topic) → AllByRecursion (λ y. topic_cmp t y ≡ Less) ys → is_among ys u ≡ true → topic_cmp t u ≡ Less
    later [] up there = clash there
    later (y ∷ ys) up there = step (bytes_eq u y) refl there (λ r. later ys up.1 r)
      where
        step : (b : Bool) → bytes_eq u y ≡ b → (b || is_among ys u) ≡ true → (is_among ys u ≡ true → topic_cmp t u ≡ Less) → topic_cmp t u ≡ Less
        step true same there rest = ap (topic_cmp t) ((bytes_decides u y).0 same) ∙ up.0
        step false other there rest = rest there

    by : (b : Bool) → bytes_eq u t ≡ b → (b || is_among rest u) ≡ true → (t ≡ u) ⊎ (topic_cmp t u ≡ Less)
    by true same there = inl (sym ((bytes_decides u t).0 same))
    by false other there = inr (later rest up there)

or_true : (b : Bool) → (b || true) ≡ true
or_true true = refl
or_true false = refl

-- the first that passes is the least that does
find_least : (test : Topic → Bool) (xs : List Topic) (t : Topic) → AreInOrder xs → is_among xs t ≡ true → test t ≡ true
    → ((u : Topic) → is_among xs u ≡ true → test u ≡ true → (t ≡ u) ⊎ (topic_cmp t u ≡ Less)) → find test xs ≡ Some t
unfolding IsStrictlySortedBy
find_least test [] t order there passes later = clash there
find_least test (x ∷ xs) t order there passes later =
    by (test x) refl (bytes_eq t x) refl there
    (λ r. find_least test xs t order.1 r passes (λ u in_ yes. later u (ap (λ b. bytes_eq u x || b) in_ ∙ or_true (bytes_eq u x)) yes))
  where
    meet : (x ≡ t) ⊎ (topic_cmp x t ≡ Less) → (t ≡ x) ⊎ (topic_cmp t x ≡ Less) → x ≡ t
    meet (inl e) k = e
    meet (inr l) (inl e) = sym e
    meet (inr l) (inr k) = absurd (never_both x t l k)

    by : (b : Bool) → test x ≡ b → (c : Bool) → bytes_eq t x ≡ c → (c || is_among xs t) ≡ true → (is_among xs t ≡ true → find test xs ≡ Some t)
        → cond b (Some x) (find test xs) ≡ Some t
    by true passed c is there rest =
        ap Some (meet (behind_first x t xs order.0 (ap (λ b. b || is_among xs t) is ∙ there)) (later x (ap (λ b. b || is_among xs x) (nat_list_eq_equiv.refl x)) passed))
    by false fails true same there rest = clash (sym fails ∙ sym (ap test ((bytes_decides t x).0 same)) ∙ passes)
    by false fails false other there rest = rest there

-- where none passes, none is found
find_none : (test : Topic → Bool) (xs : List Topic) → ((u : Topic) → is_among xs u ≡ true → test u ≡ false) → find test xs ≡ None
find_none test [] none = refl
find_none test (x ∷ xs) none =
    ap (λ b. cond b (Some x) (find test xs)) (none x (ap (λ b. b || is_among xs x) (nat_list_eq_equiv.refl x)))
    ∙ find_none test xs (λ u there. none u (ap (λ b. bytes_eq u x || b) there ∙ or_true (bytes_eq u x)))

-- what is found is there, and passes
find_gives : (test : Topic → Bool) (xs : List Topic) (u : Topic) → find test xs ≡ Some u → (is_among xs u ≡ true) × (test u ≡ true)
find_gives test [] u found = absurd (none found)
  where
    none : None ≡ Some u → ⊥
    none e = cc
find_gives test (x ∷ xs) u found = by (test x) refl found (λ r. find_gives test xs u r)
  where
    some_is : (x u : Topic) → Some x ≡ Some u → x ≡ u
    some_is x u e = cc

    by : (b : Bool) → test x ≡ b → cond b (Some x) (find test xs) ≡ Some u
        → (find test xs ≡ Some u → (is_among xs u ≡ true) × (test u ≡ true)) → (is_among (x ∷ xs) u ≡ true) × (test u ≡ true)
    by true passed found rest = let e : x ≡ u = some_is x u found in
        (ap (λ v. bytes_eq u v || is_among xs u) e ∙ ap (λ b. b || is_among xs u) (nat_list_eq_equiv.refl u), sym (ap test e) ∙ passed)
    by false fails found rest = let r = rest found in (ap (λ b. bytes_eq u x || b) r.0 ∙ or_true (bytes_eq u x), r.1)

-- ---- the difference

is_false : (b : Bool) → not b ≡ true → b ≡ false
is_false true h = clash h
is_false false h = refl

module _ (told : List Topic) (wanted : Wanted) (t : Topic) (later : (u : Topic) → wants wanted u ≡ not (is_among told u) → (t ≡ u) ⊎ (topic_cmp t u ≡ Less)) where
  new_differs : (u : Topic) → is_among (keys_of wanted) u ≡ true → not (is_among told u) ≡ true → wants wanted u ≡ not (is_among told u)
  new_differs u there new = found_is_key (bytes_eq u) wanted ∙ there ∙ sym new

  gone_differs : (u : Topic) → is_among told u ≡ true → not (wants wanted u) ≡ true → wants wanted u ≡ not (is_among told u)
  gone_differs u there gone = is_false (wants wanted u) gone ∙ ap not (sym there)

  -- the least topic that differs, where it is wanted
  difference-new : AreInOrder (keys_of wanted) → wants wanted t ≡ true → is_among told t ≡ false → difference told wanted ≡ Some (1, t)
  difference-new order want new =
      ap (λ o. first_of o (first_unwanted told wanted))
      (find_least (λ u. not (is_among told u)) (keys_of wanted) t order (sym (found_is_key (bytes_eq t) wanted) ∙ want) (ap not new) (λ u there yes. later u (new_differs u there yes)))
      ∙ by (first_unwanted told wanted) refl
    where
      before : (gone : Topic) → not (wants wanted gone) ≡ true → (t ≡ gone) ⊎ (topic_cmp t gone ≡ Less) → is_lt (topic_cmp t gone) ≡ true
      before gone un (inl e) = clash (sym (is_false (wants wanted gone) un) ∙ sym (ap (wants wanted) e) ∙ want)
      before gone un (inr l) = ap is_lt l

      by : (o : Option Topic) → first_unwanted told wanted ≡ o → first_of (Some t) o ≡ Some (1, t)
      by None none = refl
      by (Some gone) found =
          let r = find_gives (λ u. not (wants wanted u)) told gone found in
          ap (λ b. cond b (Some (1, t)) (Some (0, gone))) (before gone r.1 (later gone (gone_differs gone r.0 r.1)))

  -- the least topic that differs, where it isn't wanted
  difference-gone : AreInOrder told → wants wanted t ≡ false → is_among told t ≡ true → difference told wanted ≡ Some (0, t)
  difference-gone order un there =
      ap (first_of (first_untold told wanted))
      (find_least (λ u. not (wants wanted u)) told t order there (ap not un) (λ u in_ yes. later u (gone_differs u in_ yes)))
      ∙ by (first_untold told wanted) refl
    where
      after : (new : Topic) → not (is_among told new) ≡ true → (t ≡ new) ⊎ (topic_cmp t new ≡ Less) → is_lt (topic_cmp new t) ≡ false
      after new fresh (inl e) = clash (sym (is_false (is_among told new) fresh) ∙ sym (ap (is_among told) e) ∙ there)
      after new fresh (inr l) = ap is_lt (greater t new l)

      by : (o : Option Topic) → first_untold told wanted ≡ o → first_of o (Some t) ≡ Some (0, t)
      by None none = refl
      by (Some new) found =
          let r = find_gives (λ u. not (is_among told u)) (keys_of wanted) new found in
          ap (λ b. cond b (Some (1, new)) (Some (0, t))) (after new r.1 (later new (new_differs new r.0 r.1)))

-- where nothing differs, there is no difference
pub difference-none : (told : List Topic) (wanted : Wanted) → ((u : Topic) → wants wanted u ≡ is_among told u) → difference told wanted ≡ None
difference-none told wanted same =
    (λ j. first_of (new j) (gone j))
  where
    new : first_untold told wanted ≡ None
    new = find_none (λ u. not (is_among told u)) (keys_of wanted) (λ u there. ap not (sym (same u) ∙ found_is_key (bytes_eq u) wanted ∙ there))

    gone : first_unwanted told wanted ≡ None
    gone = find_none (λ u. not (wants wanted u)) told (λ u there. ap not (same u ∙ there))

-- ---- the suspects

-- what differs is suspected
differs_is_suspect : (wanted : Wanted) (s : ToldState) → IsKnown wanted s → s.lost ≡ false → (u : Topic) → wants wanted u ≡ not (is_among s.told u) → is_among s.suspects u ≡ true
differs_is_suspect wanted s known found u differs = by (is_among s.suspects u) refl
  where
    never : (b : Bool) → not b ≡ b → ⊥
    never true e = cc
    never false e = cc

    by : (b : Bool) → is_among s.suspects u ≡ b → is_among s.suspects u ≡ true
    by true there = there
    by false none = absurd (never (is_among s.told u) (sym differs ∙ known u found none))

-- the first suspect is the difference
pub difference-first : (wanted : Wanted) (s : ToldState) (t : Topic) (rest : List Topic) → s.suspects ≡ t ∷ rest → AreInOrder s.suspects → IsKnown wanted s → IsSettled wanted s
    → (w : Bool) → wants wanted t ≡ w → difference s.told wanted ≡ Some (cond w 1 0, t)
difference-first wanted s t rest is order known settled w want = by w want
  where
    d : Differs wanted s.told t
    d = settled.first t rest is

    later : (u : Topic) → wants wanted u ≡ not (is_among s.told u) → (t ≡ u) ⊎ (topic_cmp t u ≡ Less)
    later u differs = behind_first t u rest (sorted_head topic_cmp t rest (subst AreInOrder is order)) (sym (ap (λ l. is_among l u) is) ∙ differs_is_suspect wanted s known settled.found u differs)

    back : (a b : Bool) → a ≡ not b → b ≡ not a
    back a true e = sym (ap not e)
    back a false e = sym (ap not e)

    by : (w : Bool) → wants wanted t ≡ w → difference s.told wanted ≡ Some (cond w 1 0, t)
    by true want = difference-new s.told wanted t later d.wanted_order want (back (wants wanted t) (is_among s.told t) d.differs ∙ ap not want)
    by false want = difference-gone s.told wanted t later d.told_order want (back (wants wanted t) (is_among s.told t) d.differs ∙ ap not want)

-- where none is suspected, there is no difference
pub difference-no_suspect : (wanted : Wanted) (s : ToldState) → s.suspects ≡ [] → IsKnown wanted s → s.lost ≡ false → difference s.told wanted ≡ None
difference-no_suspect wanted s none known found = difference-none s.told wanted (λ u. known u found (ap (λ l. is_among l u) none))
