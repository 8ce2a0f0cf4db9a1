-- What changes and look-ups of topics in a tree are in the lists by octets.
use Rattle.std.proofs.Common.{◌≡◌, ◌∙◌, ℕ, Bool, true, false, cond, ◌||◌, List, [], ◌∷◌, filter, find, Option, None, Some, refl, sym, ap}
use Rattle.std.specs.Cmp.{unsigned_ties}
use Rattle.std.specs.Cmp.Lexicographic.{slice_cmp, lists_ties, bytes_decides, nat_list_eq_equiv}
use Rattle.std.specs.List.{list_any, slice_get, AllByRecursion}
use Rattle.std.specs.List.Sorted.{IsStrictlySortedBy}
use Rattle.std.specs.Set.{remove_key}
use Rattle.std.specs.Map.{keys_of, lookup, set_value, remove_entry, IsKeyTest, AreApart}
use Rattle.std.specs.Option.{option_map}
use Rattle.std.specs.Ordering.{nat_cmp, eq_by_cmp, match_ordering}
use Rattle.std.specs.declared.cmp.Ordering.{Ordering}
use Rattle.std.specs.declared.cmp.Ordering.TheVariants.{Less, Equal, Greater}
use Rattle.std.specs.Str.{bytes_eq}
use Rattle.std.specs.BTreeMap.{insert_entry}
use Rattle.std.specs.BTreeSet.{insert_key}
use Rattle.std.specs.declared.vec.Vec.{Vec}
use Rattle.spec_pattern.specs.Topics.{Topic, topic_cmp, AreInOrder}
use Rattle.sub_table.specs.View.{entries_of, topics_in}

-- octets tie in their order where they are equal
pub octets_ties : (q t : Topic) → eq_by_cmp (slice_cmp nat_cmp) q t ≡ bytes_eq q t
octets_ties q t = sym (lists_ties nat_cmp unsigned_ties q t)

module _ {A : Type 0} where
  -- a topic's test of a key, by order and by octets
  abbrev pub at_key : Topic → Vec ℕ A → Bool
  at_key q k = eq_by_cmp (slice_cmp nat_cmp) q k.items

  abbrev pub same_octets : Topic → Vec ℕ A → Bool
  same_octets q k = bytes_eq q k.items

  -- the two tests are one
  same_tests : (q : Topic) → at_key q ≡ same_octets q
  same_tests q = λ j k. octets_ties q k.items j

  set_value-octets : {X : Type 0} (q : Topic) (es : List (Vec ℕ A × X)) (v : X) → entries_of (set_value (same_octets q) es v) ≡ set_value (bytes_eq q) (entries_of es) v
  set_value-octets q [] v = refl
  set_value-octets q (e ∷ es) v = by (bytes_eq q e.0.items) (set_value-octets q es v)
    where
      by : (b : Bool) → entries_of (set_value (same_octets q) es v) ≡ set_value (bytes_eq q) (entries_of es) v
          → entries_of (cond b ((e.0, v) ∷ es) (e ∷ set_value (same_octets q) es v))
          ≡ cond b ((e.0.items, v) ∷ entries_of es) ((e.0.items, e.1) ∷ set_value (bytes_eq q) (entries_of es) v)
      by true rest = refl
      by false rest = ap (λ l. (e.0.items, e.1) ∷ l) rest

  -- a count that is set
  pub set_value-entries_of : {X : Type 0} (q : Topic) (es : List (Vec ℕ A × X)) (v : X) → entries_of (set_value (at_key q) es v) ≡ set_value (bytes_eq q) (entries_of es) v
  set_value-entries_of q es v = ap (λ test. entries_of (set_value test es v)) (same_tests q) ∙ set_value-octets q es v

  remove_entry-octets : {X : Type 0} (q : Topic) (es : List (Vec ℕ A × X)) → entries_of (remove_entry (same_octets q) es) ≡ remove_entry (bytes_eq q) (entries_of es)
  remove_entry-octets q [] = refl
  remove_entry-octets q (e ∷ es) = by (bytes_eq q e.0.items) (remove_entry-octets q es)
    where
      by : (b : Bool) → entries_of (remove_entry (same_octets q) es) ≡ remove_entry (bytes_eq q) (entries_of es)
          → entries_of (cond b es (e ∷ remove_entry (same_octets q) es)) ≡ cond b (entries_of es) ((e.0.items, e.1) ∷ remove_entry (bytes_eq q) (entries_of es))
      by true rest = refl
      by false rest = ap (λ l. (e.0.items, e.1) ∷ l) rest

  -- a topic that is taken out
  pub remove_entry-entries_of : {X : Type 0} (q : Topic) (es : List (Vec ℕ A × X)) → entries_of (remove_entry (at_key q) es) ≡ remove_entry (bytes_eq q) (entries_of es)
  remove_entry-entries_of q es = ap (λ test. entries_of (remove_entry test es)) (same_tests q) ∙ remove_entry-octets q es

  -- the order of keys is that of their octets
  abbrev pub key_cmp : Vec ℕ A → Vec ℕ A → Ordering
  key_cmp k other = slice_cmp nat_cmp k.items other.items

  -- a topic that is put in
  pub insert_entry-entries_of : {X : Type 0} (k : Vec ℕ A) (v : X) (es : List (Vec ℕ A × X)) → entries_of (insert_entry key_cmp es k v) ≡ insert_entry (slice_cmp nat_cmp) (entries_of es) k.items v
  insert_entry-entries_of k v [] = refl
  insert_entry-entries_of k v (e ∷ es) = by (slice_cmp nat_cmp k.items e.0.items) (insert_entry-entries_of k v es)
    where
      by : (o : Ordering) → entries_of (insert_entry key_cmp es k v) ≡ insert_entry (slice_cmp nat_cmp) (entries_of es) k.items v
          → entries_of (match_ordering o ((k, v) ∷ e ∷ es) ((e.0, v) ∷ es) (e ∷ insert_entry key_cmp es k v))
          ≡ match_ordering o ((k.items, v) ∷ (e.0.items, e.1) ∷ entries_of es) ((e.0.items, v) ∷ entries_of es) ((e.0.items, e.1) ∷ insert_entry (slice_cmp nat_cmp) (entries_of es) k.items v)
      by Less rest = refl
      by Equal rest = refl
      by Greater rest = ap (λ l. (e.0.items, e.1) ∷ l) rest

  pub insert_key-topics_in : (k : Vec ℕ A) (ks : List (Vec ℕ A)) → topics_in (insert_key key_cmp ks k) ≡ insert_key (slice_cmp nat_cmp) (topics_in ks) k.items
  insert_key-topics_in k [] = refl
  insert_key-topics_in k (x ∷ ks) = by (slice_cmp nat_cmp k.items x.items) (insert_key-topics_in k ks)
    where
      by : (o : Ordering) → topics_in (insert_key key_cmp ks k) ≡ insert_key (slice_cmp nat_cmp) (topics_in ks) k.items
          → topics_in (match_ordering o (k ∷ x ∷ ks) (x ∷ ks) (x ∷ insert_key key_cmp ks k))
          ≡ match_ordering o (k.items ∷ x.items ∷ topics_in ks) (x.items ∷ topics_in ks) (x.items ∷ insert_key (slice_cmp nat_cmp) (topics_in ks) k.items)
      by Less rest = refl
      by Equal rest = refl
      by Greater rest = ap (λ l. x.items ∷ l) rest

  -- whether a topic is there
  pub any-topics_in : (q : Topic) (ks : List (Vec ℕ A)) → list_any (at_key q) ks ≡ list_any (bytes_eq q) (topics_in ks)
  any-topics_in q [] = refl
  any-topics_in q (k ∷ ks) = λ j. octets_ties q k.items j || any-topics_in q ks j

  remove_key-octets : (q : Topic) (ks : List (Vec ℕ A)) → topics_in (remove_key (same_octets q) ks) ≡ remove_key (bytes_eq q) (topics_in ks)
  remove_key-octets q [] = refl
  remove_key-octets q (k ∷ ks) = by (bytes_eq q k.items) (remove_key-octets q ks)
    where
      by : (b : Bool) → topics_in (remove_key (same_octets q) ks) ≡ remove_key (bytes_eq q) (topics_in ks)
          → topics_in (cond b ks (k ∷ remove_key (same_octets q) ks)) ≡ cond b (topics_in ks) (k.items ∷ remove_key (bytes_eq q) (topics_in ks))
      by true rest = refl
      by false rest = ap (λ l. k.items ∷ l) rest

  -- a topic that is taken out of a set
  pub remove_key-topics_in : (q : Topic) (ks : List (Vec ℕ A)) → topics_in (remove_key (at_key q) ks) ≡ remove_key (bytes_eq q) (topics_in ks)
  remove_key-topics_in q ks = ap (λ test. topics_in (remove_key test ks)) (same_tests q) ∙ remove_key-octets q ks

  AllByRecursion-topics_in : (k : Vec ℕ A) (ks : List (Vec ℕ A)) → AllByRecursion (λ y. key_cmp k y ≡ Less) ks → AllByRecursion (λ t. topic_cmp k.items t ≡ Less) (topics_in ks)
  AllByRecursion-topics_in k [] h = h
  AllByRecursion-topics_in k (y ∷ ks) h = (h.0, AllByRecursion-topics_in k ks h.1)

  -- the topics are in order as their keys are
  pub AreInOrder-topics_in : (ks : List (Vec ℕ A)) → IsStrictlySortedBy key_cmp ks → AreInOrder (topics_in ks)
  unfolding IsStrictlySortedBy
  AreInOrder-topics_in [] h = h
  AreInOrder-topics_in (k ∷ ks) h = (AllByRecursion-topics_in k ks h.0, AreInOrder-topics_in ks h.1)

  -- a filter
  pub filter-topics_in : (keep : Topic → Bool) (ks : List (Vec ℕ A)) → topics_in (filter (λ k. keep k.items) ks) ≡ filter keep (topics_in ks)
  filter-topics_in keep [] = refl
  filter-topics_in keep (k ∷ ks) = by (keep k.items) (filter-topics_in keep ks)
    where
      by : (b : Bool) → topics_in (filter (λ k. keep k.items) ks) ≡ filter keep (topics_in ks)
          → topics_in (cond b (k ∷ filter (λ k. keep k.items) ks) (filter (λ k. keep k.items) ks)) ≡ cond b (k.items ∷ filter keep (topics_in ks)) (filter keep (topics_in ks))
      by true rest = ap (λ l. k.items ∷ l) rest
      by false rest = rest

  -- the first that passes
  pub find-topics_in : (test : Topic → Bool) (ks : List (Vec ℕ A)) → option_map (λ k. k.items) (find (λ k. test k.items) ks) ≡ find test (topics_in ks)
  find-topics_in test [] = refl
  find-topics_in test (k ∷ ks) = by (test k.items) (find-topics_in test ks)
    where
      by : (b : Bool) → option_map (λ k. k.items) (find (λ k. test k.items) ks) ≡ find test (topics_in ks)
          → option_map {U = Topic} (λ k. k.items) (cond b (Some k) (find (λ k. test k.items) ks)) ≡ cond b (Some k.items) (find test (topics_in ks))
      by true rest = refl
      by false rest = rest

  -- the topics that are wanted, in order
  pub keys_of-entries_of : {X : Type 0} (es : List (Vec ℕ A × X)) → topics_in (keys_of es) ≡ keys_of (entries_of es)
  keys_of-entries_of [] = refl
  keys_of-entries_of (e ∷ es) = ap (λ l. e.0.items ∷ l) (keys_of-entries_of es)

  -- whether one of them passes
  pub any-entries_of : (test : Topic → Bool) (es : List (Vec ℕ A × ℕ)) → list_any (λ k. test k.items) (keys_of es) ≡ list_any (λ w. test w.0) (entries_of es)
  any-entries_of test [] = refl
  any-entries_of test (e ∷ es) = ap (λ b. test e.0.items || b) (any-entries_of test es)

-- a map of what a map gives
pub option_map-option_map : {X Y Z : Type 0} (f : Y → Z) (g : X → Y) (o : Option X) → option_map (λ x. f (g x)) o ≡ option_map f (option_map g o)
option_map-option_map f g None = refl
option_map-option_map f g (Some x) = refl

-- where nothing is found, nothing is set
pub set_value-absent : {K X : Type 0} (test : K → Bool) (es : List (K × X)) (v : X) → None ≡ lookup test es → set_value test es v ≡ es
set_value-absent test [] v none = refl
set_value-absent test (e ∷ es) v none = by (test e.0) none (set_value-absent test es v)
  where
    by : (b : Bool) → None ≡ cond b (Some e.1) (lookup test es) → (None ≡ lookup test es → set_value test es v ≡ es)
        → cond b ((e.0, v) ∷ es) (e ∷ set_value test es v) ≡ e ∷ es
    by true h rest = cc
    by false h rest = ap (λ l. e ∷ l) (rest h)

module _ {A X : Type 0} where
  -- a look-up
  pub lookup-entries_of : (q : Topic) (es : List (Vec ℕ A × X)) → lookup (at_key q) es ≡ lookup (bytes_eq q) (entries_of es)
  lookup-entries_of q [] = refl
  lookup-entries_of q (e ∷ es) = λ j. cond (octets_ties q e.0.items j) (Some e.1) (lookup-entries_of q es j)

module _ {A : Type 0} where
  -- a topic's test is that of one key
  pub is_key_test : (t : Topic) → IsKeyTest (eq_by_cmp key_cmp) (at_key {A = A} t)
  is_key_test t x y h = ap (λ l. eq_by_cmp (slice_cmp nat_cmp) l y.items) ((bytes_decides t x.items).0 (sym (octets_ties t x.items) ∙ h))

  -- the tests of two topics are never met by one key
  pub are_apart : (topic t : Topic) → bytes_eq topic t ≡ false → AreApart (at_key {A = A} topic) (at_key t)
  are_apart topic t other k h =
      octets_ties t k.items ∙ ap (bytes_eq t) (sym ((bytes_decides topic k.items).0 (sym (octets_ties topic k.items) ∙ h)))
      ∙ nat_list_eq_equiv.symm t topic ∙ other

-- no topics are in order
pub none_in_order : AreInOrder []
unfolding IsStrictlySortedBy
none_in_order = tt

module _ {A : Type 0} where
  -- the first key is that of the first topic
  pub first-topics_in : (ks : List (Vec ℕ A)) (k : Vec ℕ A) → slice_get ks 0 ≡ Some k → (rest : List Topic) × (topics_in ks ≡ k.items ∷ rest)
  first-topics_in [] k first = absurd (none first)
    where
      none : None ≡ Some k → ⊥
      none e = cc
  first-topics_in (x ∷ ks) k first = (topics_in ks, ap (λ (v : Vec ℕ A). v.items ∷ topics_in ks) (same first))
    where
      same : Some x ≡ Some k → x ≡ k
      same e = cc
