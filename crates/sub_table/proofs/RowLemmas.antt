-- What a change of one peer's topics does to who has which topic.
use Rattle.std.proofs.Common.{◌≡◌, ◌∙◌, ℕ, Bool, true, false, not, cond, ◌<◌, ◌||◌, ◌&&◌, List, [], ◌∷◌, ◌++◌, nat_eq, Option, Some, None, refl, sym, ap}
use Rattle.std.proofs.lemmas.List.Elements.{All-head, All-tail}
use Rattle.std.proofs.lemmas.Map.{lookup-set_value}
use Rattle.std.proofs.lemmas.Map.Views.{exact_unsigned_eq}
use Rattle.std.specs.BTreeMap.{insert_entry}
use Rattle.std.specs.Cmp.{unsigned_tied, nat_eq_equiv, nat_cmp_is}
use Rattle.std.specs.List.{All}
use Rattle.std.specs.Map.{keys_of, lookup, set_value, remove_entry}
use Rattle.std.specs.Option.{is_some, unwrap_or}
use Rattle.std.specs.Ordering.{nat_cmp, eq_by_cmp, match_ordering}
use Rattle.std.specs.Str.{bytes_eq}
use Rattle.std.specs.declared.cmp.Ordering.TheVariants.{Greater}
use Rattle.spec_pattern.specs.Topics.{Topic, Subscribers, is_among, topics_of, has_topic, with_peer}

-- a number ties with itself alone
pub same_peer : (p : ℕ) → (λ (k : ℕ). eq_by_cmp nat_cmp p k) ≡ nat_eq p
same_peer p = λ j k. unsigned_tied p k j

module _ {K X : Type 0} (test : K → Bool) where
  -- what is found may be set to itself
  pub set_value-found : (es : List (K × X)) (v : X) → lookup test es ≡ Some v → set_value test es v ≡ es
  set_value-found [] v found = refl
  set_value-found (e ∷ es) v found = by (test e.0) found (set_value-found es v)
    where
      by : (b : Bool) → cond b (Some e.1) (lookup test es) ≡ Some v → (lookup test es ≡ Some v → set_value test es v ≡ es)
          → cond b ((e.0, v) ∷ es) (e ∷ set_value test es v) ≡ e ∷ es
      by true found rest = ap (λ w. (e.0, w) ∷ es) (sym (ap (λ o. unwrap_or o v) found))
      by false found rest = ap (λ l. e ∷ l) (rest found)

  -- the last value that was set stays
  pub set_value-twice : (es : List (K × X)) (v w : X) → set_value test (set_value test es v) w ≡ set_value test es w
  set_value-twice [] v w = refl
  set_value-twice (e ∷ es) v w = by (test e.0) refl (set_value-twice es v w)
    where
      by : (b : Bool) → test e.0 ≡ b → set_value test (set_value test es v) w ≡ set_value test es w
          → set_value test (cond b ((e.0, v) ∷ es) (e ∷ set_value test es v)) w ≡ cond b ((e.0, w) ∷ es) (e ∷ set_value test es w)
      by true is rest = ap (λ b. cond b ((e.0, w) ∷ es) ((e.0, v) ∷ set_value test es w)) is
      by false is rest = ap (λ b. cond b ((e.0, w) ∷ set_value test es v) (e ∷ set_value test (set_value test es v) w)) is ∙ ap (λ l. e ∷ l) rest

  -- what goes may be set before
  pub remove_entry-set_value : (es : List (K × X)) (v : X) → remove_entry test (set_value test es v) ≡ remove_entry test es
  remove_entry-set_value [] v = refl
  remove_entry-set_value (e ∷ es) v = by (test e.0) refl (remove_entry-set_value es v)
    where
      by : (b : Bool) → test e.0 ≡ b → remove_entry test (set_value test es v) ≡ remove_entry test es
          → remove_entry test (cond b ((e.0, v) ∷ es) (e ∷ set_value test es v)) ≡ cond b es (e ∷ remove_entry test es)
      by true is rest = ap (λ b. cond b es ((e.0, v) ∷ remove_entry test es)) is
      by false is rest = ap (λ b. cond b (set_value test es v) (e ∷ remove_entry test (set_value test es v))) is ∙ ap (λ l. e ∷ l) rest

-- the topics that a tree finds
pub topics_of-found : (p : ℕ) (es : Subscribers ℕ) (found : Option (List Topic)) → found ≡ lookup (eq_by_cmp nat_cmp p) es → topics_of nat_eq es p ≡ unwrap_or found []
topics_of-found p es found is = ap (λ o. unwrap_or o []) (ap (λ test. lookup test es) (sym (same_peer p)) ∙ sym is)

-- a row that a tree finds
pub row-found : (p : ℕ) (es : Subscribers ℕ) (found : Option (List Topic)) → found ≡ lookup (eq_by_cmp nat_cmp p) es → lookup (nat_eq p) es ≡ found
row-found p es found is = ap (λ test. lookup test es) (sym (same_peer p)) ∙ sym is

same_row : (p x y : ℕ) → nat_eq p x ≡ true → nat_eq p y ≡ nat_eq x y
same_row p x y h = ap (λ k. nat_eq k y) (exact_unsigned_eq p x h)

-- a peer's topics once one peer's were set
pub topics_of-set : (p : ℕ) (w : List Topic) (es : Subscribers ℕ) → is_some (lookup (nat_eq p) es) ≡ true
    → (q : ℕ) → topics_of nat_eq (set_value (nat_eq p) es w) q ≡ cond (nat_eq p q) w (topics_of nat_eq es q)
topics_of-set p w es here q =
    ap (λ o. unwrap_or o []) (lookup-set_value nat_eq_equiv (nat_eq p) (same_row p) q w es here) ∙ by (nat_eq p q)
  where
    by : (b : Bool) → unwrap_or (cond b (Some w) (lookup (nat_eq q) es)) [] ≡ cond b w (topics_of nat_eq es q)
    by true = refl
    by false = refl

-- who has which topic once one peer's topics were set
has_topic-set : (p : ℕ) (w : List Topic) (es : Subscribers ℕ) → is_some (lookup (nat_eq p) es) ≡ true
    → (change : Bool → Bool → Bool → Bool) → ((b c : Bool) → change false b c ≡ c)
    → (f : Topic → Bool) → ((t : Topic) → is_among w t ≡ change true (f t) (is_among (topics_of nat_eq es p) t))
    → (q : ℕ) (t : Topic) → has_topic nat_eq (set_value (nat_eq p) es w) q t ≡ change (nat_eq p q) (f t) (has_topic nat_eq es q t)
has_topic-set p w es here change others f mine q t = ap (λ l. is_among l t) (topics_of-set p w es here q) ∙ by (nat_eq p q) refl
  where
    by : (b : Bool) → nat_eq p q ≡ b → is_among (cond b w (topics_of nat_eq es q)) t ≡ change b (f t) (has_topic nat_eq es q t)
    by true same = mine t ∙ ap (λ k. change true (f t) (has_topic nat_eq es k t)) (exact_unsigned_eq p q same)
    by false other = sym (others (f t) (has_topic nat_eq es q t))

-- a topic more
pub has_topic-more : (p : ℕ) (topic : Topic) (w : List Topic) (es : Subscribers ℕ) → is_some (lookup (nat_eq p) es) ≡ true
    → ((t : Topic) → is_among w t ≡ (bytes_eq topic t || is_among (topics_of nat_eq es p) t))
    → (q : ℕ) (t : Topic) → has_topic nat_eq (set_value (nat_eq p) es w) q t ≡ ((nat_eq p q && bytes_eq topic t) || has_topic nat_eq es q t)
has_topic-more p topic w es here mine = has_topic-set p w es here (λ a b c. (a && b) || c) (λ b c. refl) (bytes_eq topic) mine

-- a topic less
pub has_topic-less : (p : ℕ) (topic : Topic) (w : List Topic) (es : Subscribers ℕ) → is_some (lookup (nat_eq p) es) ≡ true
    → ((t : Topic) → is_among w t ≡ (not (bytes_eq topic t) && is_among (topics_of nat_eq es p) t))
    → (q : ℕ) (t : Topic) → has_topic nat_eq (set_value (nat_eq p) es w) q t ≡ (not (nat_eq p q && bytes_eq topic t) && has_topic nat_eq es q t)
has_topic-less p topic w es here mine = has_topic-set p w es here (λ a b c. not (a && b) && c) (λ b c. refl) (bytes_eq topic) mine

-- a peer that comes last stands last
pub insert_entry-last : {X : Type 0} (p : ℕ) (v : X) (es : List (ℕ × X)) → All (λ k. k < p) (keys_of es) → insert_entry nat_cmp es p v ≡ es ++ (p, v) ∷ []
insert_entry-last p v [] above = refl
insert_entry-last p v (e ∷ es) above =
    ap (λ o. match_ordering o ((p, v) ∷ e ∷ es) ((e.0, v) ∷ es) (e ∷ insert_entry nat_cmp es p v)) (sym (nat_cmp_is p e.0 Greater (All-head (λ k. k < p) e.0 (keys_of es) above)))
    ∙ ap (λ l. e ∷ l) (insert_entry-last p v es (All-tail (λ k. k < p) e.0 (keys_of es) above))

abbrev none_yet : List Topic
none_yet = []

-- a peer that came has no topic yet
pub topics_of-joined : (p q : ℕ) (es : Subscribers ℕ) → topics_of nat_eq (with_peer p es) q ≡ topics_of nat_eq es q
topics_of-joined p q [] = by (nat_eq q p)
  where
    by : (b : Bool) → unwrap_or (cond b (Some none_yet) None) none_yet ≡ none_yet
    by true = refl
    by false = refl
topics_of-joined p q (e ∷ es) = by (nat_eq q e.0) (topics_of-joined p q es)
  where
    by : (b : Bool) → topics_of nat_eq (with_peer p es) q ≡ topics_of nat_eq es q
        → unwrap_or (cond b (Some e.1) (lookup (nat_eq q) (with_peer p es))) [] ≡ unwrap_or (cond b (Some e.1) (lookup (nat_eq q) es)) []
    by true rest = refl
    by false rest = rest

-- a peer that has a topic is there
pub row_of_topic : (es : Subscribers ℕ) (p : ℕ) (t : Topic) → has_topic nat_eq es p t ≡ true → is_some (lookup (nat_eq p) es) ≡ true
row_of_topic es p t has = by (lookup (nat_eq p) es) has
  where
    by : (o : Option (List Topic)) → is_among (unwrap_or o []) t ≡ true → is_some o ≡ true
    by None h = h
    by (Some w) h = refl

-- a peer without topics loses none
pub has_topic-absent : (p : ℕ) (topic : Topic) (es : Subscribers ℕ) → topics_of nat_eq es p ≡ []
    → (q : ℕ) (t : Topic) → has_topic nat_eq es q t ≡ (not (nat_eq p q && bytes_eq topic t) && has_topic nat_eq es q t)
has_topic-absent p topic es none q t = by (nat_eq p q) refl (bytes_eq topic t)
  where
    by : (b : Bool) → nat_eq p q ≡ b → (c : Bool) → has_topic nat_eq es q t ≡ (not (b && c) && has_topic nat_eq es q t)
    by true same true = ap (λ l. is_among l t) (ap (topics_of nat_eq es) (sym (exact_unsigned_eq p q same)) ∙ none)
    by true same false = refl
    by false other c = refl
