-- The room that is kept for what the user will be told.
use Rattle.std.proofs.Common.{◌≡◌, ◌∙◌, ℕ, suc, ◌+◌, ◌-◌, ◌≤◌, Bool, true, false, not, cond, ◌||◌, ◌&&◌, List, [], ◌∷◌, ◌++◌, length, filter, nat_eq, Option, Some, None, All, refl, sym, ap, subst, arith}
use Rattle.std.proofs.lemmas.List.Elements.{All-head, All-tail, All-nil, All-cons, All-push, All-filter}
use Rattle.std.proofs.lemmas.List.{map-append}
use Rattle.std.proofs.lemmas.List.Sums.{sum_by_push}
use Rattle.std.proofs.lemmas.Map.Entries.{sum_by-remove_entry, sum_by-set_value, All-lookup}
use Rattle.std.proofs.lemmas.Map.Made.{length-remove_key}
use Rattle.std.proofs.lemmas.Map.Views.{All-insert_key, All-remove_key, All-values-set_value, All-map-remove_entry}
use Rattle.std.specs.BTreeSet.{insert_key}
use Rattle.std.specs.Cmp.Lexicographic.{slice_cmp}
use Rattle.std.specs.List.{sum_by}
use Rattle.std.specs.Map.{keys_of, values_of, lookup, set_value}
use Rattle.std.specs.Option.{is_some, unwrap_or, option_map, IfSome}
use Rattle.std.specs.Ordering.{nat_cmp, match_ordering, eq_by_cmp, is_eq}
use Rattle.std.specs.Set.{remove_key}
use Rattle.std.specs.Str.{bytes_eq}
use Rattle.std.specs.declared.cmp.Ordering.{Ordering}
use Rattle.std.specs.declared.cmp.Ordering.TheVariants.{Less, Equal, Greater}
use Rattle.spec_pattern.specs.Topics.{Topic, Subscribers, topic_cmp, is_among, with_topic, without_topic, topics_of, has_topic, others_have, is_full, topics_gone, with_peer, without_peer, after_add, after_cancel, IsTopic}
use Rattle.spec_pattern.specs.Publishing.{Adds, Cancels}
use Rattle.sub_table.specs.Answers.{add_answer, cancel_answer}
use Rattle.sub_table.specs.declared.topics.Added.{Added}
use Rattle.sub_table.specs.declared.topics.Added.TheVariants as add
use Rattle.sub_table.specs.declared.topics.Cancelled.TheVariants as cancels
use Rattle.sub_table.proofs.ViewLemmas.{octets_ties}
use Rattle.pub_sub.specs.Publishers.{is_news_at}
use Rattle.pub_sub.specs.Audiences.{topics_held, AreShort, CanTell, is_news_of, gain_of}
use Rattle.pub_sub.specs.Places.{is_place}
use Rattle.sub_table.proofs.AnyLemmas.{row_is_key}

-- ---- how many topics there are

-- a topic more
length-insert_key : (topic : Topic) (topics : List Topic) → is_among topics topic ≡ false → length (insert_key (slice_cmp nat_cmp) topics topic) ≡ suc (length topics)
length-insert_key topic [] new = refl
length-insert_key topic (t ∷ ts) new = by (slice_cmp nat_cmp topic t) refl (λ h. length-insert_key topic ts h)
  where
    tail : (a b : Bool) → (a || b) ≡ false → b ≡ false
    tail true b h = absurd (cc)
    tail false b h = h

    head : (a b : Bool) → (a || b) ≡ false → a ≡ false
    head true b h = h
    head false b h = refl

    ties : slice_cmp nat_cmp topic t ≡ Equal → eq_by_cmp (slice_cmp nat_cmp) topic t ≡ true
    ties is = ap is_eq is

    by : (o : Ordering) → slice_cmp nat_cmp topic t ≡ o → (is_among ts topic ≡ false → length (insert_key (slice_cmp nat_cmp) ts topic) ≡ suc (length ts))
        → length (match_ordering o (topic ∷ t ∷ ts) (t ∷ ts) (t ∷ insert_key (slice_cmp nat_cmp) ts topic)) ≡ suc (suc (length ts))
    by Less is rest = refl
    by Equal is rest = absurd (
        let e : bytes_eq topic t ≡ true = sym (octets_ties topic t) ∙ ties is in
        let n : bytes_eq topic t ≡ false = head (bytes_eq topic t) (is_among ts topic) new in
        (cc)
        )
    by Greater is rest = ap (λ n. suc n) (rest (tail (bytes_eq topic t) (is_among ts topic) new))

-- a topic that isn't there
remove_key-absent : (topic : Topic) (topics : List Topic) → is_among topics topic ≡ false → remove_key (bytes_eq topic) topics ≡ topics
remove_key-absent topic [] none = refl
remove_key-absent topic (t ∷ ts) none = by (bytes_eq topic t) none (λ h. remove_key-absent topic ts h)
  where
    by : (b : Bool) → (b || is_among ts topic) ≡ false → (is_among ts topic ≡ false → remove_key (bytes_eq topic) ts ≡ ts)
        → cond b ts (t ∷ remove_key (bytes_eq topic) ts) ≡ t ∷ ts
    by true h rest = absurd (cc)
    by false h rest = ap (λ l. t ∷ l) (rest h)

-- a peer's topics are set
held-set : (p : ℕ) (subs : Subscribers ℕ) (w : List Topic) → is_some (lookup (nat_eq p) subs) ≡ true
    → topics_held (set_value (nat_eq p) subs w) + length (topics_of nat_eq subs p) ≡ topics_held subs + length w
held-set p subs w here = by (lookup (nat_eq p) subs) refl here
  where
    by : (o : Option (List Topic)) → lookup (nat_eq p) subs ≡ o → is_some o ≡ true
        → topics_held (set_value (nat_eq p) subs w) + length (topics_of nat_eq subs p) ≡ topics_held subs + length w
    by None is h = absurd (cc)
    by (Some v) is h =
        ap (λ o. topics_held (set_value (nat_eq p) subs w) + length (unwrap_or o [])) is
        ∙ sum_by-set_value length (nat_eq p) subs v w is

-- an add
pub held-add : (p : ℕ) (topic : Topic) (subs : Subscribers ℕ) → is_some (lookup (nat_eq p) subs) ≡ true
    → topics_held (after_add nat_eq p topic subs) ≡ topics_held subs + gain_of (add_answer subs p topic)
held-add p topic subs here = by (has_topic nat_eq subs p topic) refl (is_full nat_eq subs p) (others_have nat_eq subs p topic)
  where
    w : List Topic
    w = with_topic topic (topics_of nat_eq subs p)

    none : topics_held subs ≡ topics_held subs + 0
    none = omega arith

    more : has_topic nat_eq subs p topic ≡ false → topics_held (set_value (nat_eq p) subs w) ≡ topics_held subs + 1
    more new =
        let one : length w ≡ suc (length (topics_of nat_eq subs p)) = length-insert_key topic (topics_of nat_eq subs p) new in
        let set : topics_held (set_value (nat_eq p) subs w) + length (topics_of nat_eq subs p) ≡ topics_held subs + length w = held-set p subs w here in
        omega arith

    by : (has : Bool) → has_topic nat_eq subs p topic ≡ has → (full others : Bool)
        → topics_held (cond (has || full) subs (set_value (nat_eq p) subs w)) ≡ topics_held subs + gain_of (cond has add.Known (cond full add.Ignored (cond others add.Added add.First)))
    by true is full others = none
    by false is true others = none
    by false is false true = more is
    by false is false false = more is

-- what is told of an add
pub news-add : (verbose : Bool) (p : ℕ) (topic : Topic) (subs : Subscribers ℕ) → is_news_of verbose (add_answer subs p topic) ≡ is_news_at verbose subs p (Adds topic)
news-add verbose p topic subs = by (has_topic nat_eq subs p topic) (is_full nat_eq subs p) verbose (others_have nat_eq subs p topic)
  where
    by : (has full v others : Bool) → is_news_of v (cond has add.Known (cond full add.Ignored (cond others add.Added add.First))) ≡ (not (has || full) && (v || not others))
    by true full v others = refl
    by false true v others = refl
    by false false true true = refl
    by false false true false = refl
    by false false false true = refl
    by false false false false = refl

-- a cancel that nothing is there for
pub held-unknown : (p : ℕ) (topic : Topic) (subs : Subscribers ℕ) → is_some (lookup (nat_eq p) subs) ≡ true → has_topic nat_eq subs p topic ≡ false
    → topics_held (after_cancel nat_eq p topic subs) ≡ topics_held subs
held-unknown p topic subs here none =
    let same : length (without_topic topic (topics_of nat_eq subs p)) ≡ length (topics_of nat_eq subs p) = ap length (remove_key-absent topic (topics_of nat_eq subs p) none) in
    let set : topics_held (after_cancel nat_eq p topic subs) + length (topics_of nat_eq subs p) ≡ topics_held subs + length (without_topic topic (topics_of nat_eq subs p)) =
    held-set p subs (without_topic topic (topics_of nat_eq subs p)) here in
    omega arith

-- a cancel of a topic
pub held-cancelled : (p : ℕ) (topic : Topic) (subs : Subscribers ℕ) → is_some (lookup (nat_eq p) subs) ≡ true → has_topic nat_eq subs p topic ≡ true
    → topics_held (after_cancel nat_eq p topic subs) + 1 ≡ topics_held subs
held-cancelled p topic subs here has =
    let one : length (without_topic topic (topics_of nat_eq subs p)) + 1 ≡ length (topics_of nat_eq subs p) = length-remove_key (bytes_eq topic) (topics_of nat_eq subs p) has in
    let set : topics_held (after_cancel nat_eq p topic subs) + length (topics_of nat_eq subs p) ≡ topics_held subs + length (without_topic topic (topics_of nat_eq subs p)) =
    held-set p subs (without_topic topic (topics_of nat_eq subs p)) here in
    omega arith

-- what a cancel answers says what was there, and what is told
pub record Cancels-told (verbose : Bool) (p : ℕ) (topic : Topic) (subs : Subscribers ℕ) (had news : Bool) : Type 0 where
  pub had_is : has_topic nat_eq subs p topic ≡ had
  pub news_is : is_news_at verbose subs p (Cancels topic) ≡ news

pub cancel-last : (verbose : Bool) (p : ℕ) (topic : Topic) (subs : Subscribers ℕ) → cancels.Last ≡ cancel_answer subs p topic → Cancels-told verbose p topic subs true true
cancel-last verbose p topic subs is = by (has_topic nat_eq subs p topic) refl (others_have nat_eq subs p topic) refl is
  where
    by : (has : Bool) → has_topic nat_eq subs p topic ≡ has → (others : Bool) → others_have nat_eq subs p topic ≡ others
        → cancels.Last ≡ cond has (cond others cancels.Gone cancels.Last) cancels.Unknown → Cancels-told verbose p topic subs true true
    by true h true o e = absurd (cc)
    by true h false o e = record { had_is = h; news_is = λ j. h j && not (o j) }
    by false h others o e = absurd (cc)

pub cancel-gone : (verbose : Bool) (p : ℕ) (topic : Topic) (subs : Subscribers ℕ) → cancels.Gone ≡ cancel_answer subs p topic → Cancels-told verbose p topic subs true false
cancel-gone verbose p topic subs is = by (has_topic nat_eq subs p topic) refl (others_have nat_eq subs p topic) refl is
  where
    by : (has : Bool) → has_topic nat_eq subs p topic ≡ has → (others : Bool) → others_have nat_eq subs p topic ≡ others
        → cancels.Gone ≡ cond has (cond others cancels.Gone cancels.Last) cancels.Unknown → Cancels-told verbose p topic subs true false
    by true h true o e = record { had_is = h; news_is = λ j. h j && not (o j) }
    by true h false o e = absurd (cc)
    by false h others o e = absurd (cc)

pub cancel-unknown : (verbose : Bool) (p : ℕ) (topic : Topic) (subs : Subscribers ℕ) → cancels.Unknown ≡ cancel_answer subs p topic → Cancels-told verbose p topic subs false false
cancel-unknown verbose p topic subs is = by (has_topic nat_eq subs p topic) refl (others_have nat_eq subs p topic) is
  where
    by : (has : Bool) → has_topic nat_eq subs p topic ≡ has → (others : Bool)
        → cancels.Unknown ≡ cond has (cond others cancels.Gone cancels.Last) cancels.Unknown → Cancels-told verbose p topic subs false false
    by true h true e = absurd (cc)
    by true h false e = absurd (cc)
    by false h others e = record { had_is = h; news_is = λ j. h j && not (others_have nat_eq subs p topic) }

-- a peer goes
pub held-without : (p : ℕ) (subs : Subscribers ℕ) → topics_held (without_peer nat_eq p subs) + length (topics_of nat_eq subs p) ≡ topics_held subs
held-without p subs = ap (λ n. topics_held (without_peer nat_eq p subs) + n) (by (lookup (nat_eq p) subs)) ∙ sum_by-remove_entry length (nat_eq p) subs
  where
    by : (o : Option (List Topic)) → length (unwrap_or o []) ≡ unwrap_or (option_map length o) 0
    by None = refl
    by (Some v) = refl

values_of-with : (p : ℕ) (subs : Subscribers ℕ) → values_of (with_peer p subs) ≡ values_of subs ++ [] ∷ []
values_of-with p subs = map-append (λ (s : ℕ × List Topic). s.1) subs ((p, []) ∷ [])

-- a peer comes
pub held-with : (p : ℕ) (subs : Subscribers ℕ) → topics_held (with_peer p subs) ≡ topics_held subs
held-with p subs =
    let e : topics_held (with_peer p subs) ≡ sum_by length (values_of subs ++ [] ∷ []) = ap (sum_by length) (values_of-with p subs) in
    let s : sum_by length (values_of subs ++ [] ∷ []) ≡ topics_held subs + 0 = sum_by_push length (values_of subs) [] in
    omega arith

-- ---- topics that can be told

pub AreShort-set : (p : ℕ) (subs : Subscribers ℕ) (w : List Topic) → AreShort subs → All IsTopic w → AreShort (set_value (nat_eq p) subs w)
AreShort-set p subs w short w_short = All-values-set_value (nat_eq p) (All IsTopic) subs w short w_short

pub AreShort-of : (p : ℕ) (subs : Subscribers ℕ) → AreShort subs → All IsTopic (topics_of nat_eq subs p)
AreShort-of p subs short = by (lookup (nat_eq p) subs) (All-lookup (All IsTopic) (nat_eq p) subs (rows subs short))
  where
    rows : (es : Subscribers ℕ) → All (All IsTopic) (values_of es) → All (λ e. All IsTopic e.1) es
    rows [] h = All-nil (λ (e : ℕ × List Topic). All IsTopic e.1)
    rows (e ∷ es) h = All-cons (λ (e : ℕ × List Topic). All IsTopic e.1) e es (All-head (All IsTopic) e.1 (values_of es) h) (rows es (All-tail (All IsTopic) e.1 (values_of es) h))

    by : (o : Option (List Topic)) → IfSome o (All IsTopic) → All IsTopic (unwrap_or o [])
    by None h = All-nil IsTopic
    by (Some v) h = h

pub AreShort-add : (p : ℕ) (topic : Topic) (subs : Subscribers ℕ) → AreShort subs → IsTopic topic → AreShort (after_add nat_eq p topic subs)
AreShort-add p topic subs short one = by (has_topic nat_eq subs p topic || is_full nat_eq subs p)
  where
    by : (b : Bool) → AreShort (cond b subs (set_value (nat_eq p) subs (with_topic topic (topics_of nat_eq subs p))))
    by true = short
    by false = AreShort-set p subs (with_topic topic (topics_of nat_eq subs p)) short (All-insert_key topic_cmp topic IsTopic (topics_of nat_eq subs p) (AreShort-of p subs short) one)

pub AreShort-cancel : (p : ℕ) (topic : Topic) (subs : Subscribers ℕ) → AreShort subs → AreShort (after_cancel nat_eq p topic subs)
AreShort-cancel p topic subs short =
    AreShort-set p subs (without_topic topic (topics_of nat_eq subs p)) short (All-remove_key (bytes_eq topic) IsTopic (topics_of nat_eq subs p) (AreShort-of p subs short))

pub AreShort-without : (p : ℕ) (subs : Subscribers ℕ) → AreShort subs → AreShort (without_peer nat_eq p subs)
AreShort-without p subs short = All-map-remove_entry (nat_eq p) (λ e. e.1) (All IsTopic) subs short

pub AreShort-with : (p : ℕ) (subs : Subscribers ℕ) → AreShort subs → AreShort (with_peer p subs)
AreShort-with p subs short = subst (All (All IsTopic)) (sym (values_of-with p subs)) (All-push (All IsTopic) (values_of subs) [] short (All-nil IsTopic))

-- the topics that go with a peer
pub short_gone : (p : ℕ) (subs : Subscribers ℕ) → AreShort subs → All IsTopic (topics_gone nat_eq subs p)
short_gone p subs short = All-filter (λ t. not (others_have nat_eq subs p t)) IsTopic (topics_of nat_eq subs p) (AreShort-of p subs short)

few_gone : (test : Topic → Bool) (topics : List Topic) → length (filter test topics) ≤ length topics
few_gone test [] = omega arith
few_gone test (t ∷ ts) = by (test t) (few_gone test ts)
  where
    by : (b : Bool) → length (filter test ts) ≤ length ts → length (cond b (t ∷ filter test ts) (filter test ts)) ≤ suc (length ts)
    by true h = omega arith
    by false h = omega arith

pub room_gone : (p : ℕ) (subs : Subscribers ℕ) → length (topics_gone nat_eq subs p) ≤ length (topics_of nat_eq subs p)
room_gone p subs = few_gone (λ t. not (others_have nat_eq subs p t)) (topics_of nat_eq subs p)

-- ---- what the user can be told

row : (p : ℕ) (subs : Subscribers ℕ) → is_place (keys_of subs) p ≡ true → is_some (lookup (nat_eq p) subs) ≡ true
row p subs known = row_is_key p subs ∙ known

module _ (tells : Bool) (spare : ℕ) (p : ℕ) (topic : Topic) (subs : Subscribers ℕ) where
  -- nobody is told of an add
  pub CanTell-silent_add : CanTell tells spare subs 0 → IsTopic topic → tells ≡ false → CanTell tells spare (after_add nat_eq p topic subs) 0
  CanTell-silent_add can short silent = record {
    short = AreShort-add p topic subs can.short short;
    room = λ told. absurd (cc);
  }

  -- an add keeps room for its cancel
  pub CanTell-add : (added : Added) (news : Bool) (spare' : ℕ) → CanTell tells spare subs 0 → IsTopic topic → is_place (keys_of subs) p ≡ true → added ≡ add_answer subs p topic
      → spare' + 2 ≡ (spare + 2) + (gain_of added + cond news 1 0) → CanTell tells spare' (after_add nat_eq p topic subs) (cond news 1 0)
  CanTell-add added news spare' can short known is room = record {
    short = AreShort-add p topic subs can.short short;
    room = λ told.
        let was : spare ≡ topics_held subs + 0 = can.room told in
        let held : topics_held (after_add nat_eq p topic subs) ≡ topics_held subs + gain_of (add_answer subs p topic) = held-add p topic subs (row p subs known) in
        let same : gain_of added ≡ gain_of (add_answer subs p topic) = ap gain_of is in
        omega arith;
  }

  -- a cancel that was told to be unknown
  pub CanTell-unknown : (verbose : Bool) → CanTell tells spare subs 0 → is_place (keys_of subs) p ≡ true → Cancels-told verbose p topic subs false false → CanTell tells spare (after_cancel nat_eq p topic subs) 0
  CanTell-unknown verbose can known told = record {
    short = AreShort-cancel p topic subs can.short;
    room = λ t.
        let was : spare ≡ topics_held subs + 0 = can.room t in
        let held : topics_held (after_cancel nat_eq p topic subs) ≡ topics_held subs = held-unknown p topic subs (row p subs known) told.had_is in
        omega arith;
  }

  -- the last cancel of a topic has its room
  pub CanTell-last : (verbose : Bool) → CanTell tells spare subs 0 → is_place (keys_of subs) p ≡ true → Cancels-told verbose p topic subs true true → CanTell tells spare (after_cancel nat_eq p topic subs) (cond tells 1 0)
  CanTell-last verbose can known told = record {
    short = AreShort-cancel p topic subs can.short;
    room = λ t.
        let was : spare ≡ topics_held subs + 0 = can.room t in
        let held : topics_held (after_cancel nat_eq p topic subs) + 1 ≡ topics_held subs = held-cancelled p topic subs (row p subs known) told.had_is in
        let one : ◌≡◌ {A = ℕ} (cond tells 1 0) 1 = ap (λ b. cond {A = ℕ} b 1 0) t in
        omega (arith, one);
  }

  some_room : (verbose : Bool) → CanTell tells spare subs 0 → is_place (keys_of subs) p ≡ true → Cancels-told verbose p topic subs true false → tells ≡ true
      → spare ≡ topics_held (after_cancel nat_eq p topic subs) + 1
  some_room verbose can known told t =
      let was : spare ≡ topics_held subs + 0 = can.room t in
      let held : topics_held (after_cancel nat_eq p topic subs) + 1 ≡ topics_held subs = held-cancelled p topic subs (row p subs known) told.had_is in
      omega arith

  -- a cancel that isn't told gives its room up
  pub has_spare : (verbose : Bool) → CanTell tells spare subs 0 → is_place (keys_of subs) p ≡ true → Cancels-told verbose p topic subs true false → tells ≡ true → 1 ≤ spare
  has_spare verbose can known told t = let e : spare ≡ topics_held (after_cancel nat_eq p topic subs) + 1 = some_room verbose can known told t in omega arith

  pub CanTell-gone : (verbose : Bool) (spare' : ℕ) → CanTell tells spare subs 0 → is_place (keys_of subs) p ≡ true → Cancels-told verbose p topic subs true false → tells ≡ true → spare' ≡ spare - 1
      → CanTell tells spare' (after_cancel nat_eq p topic subs) 0
  CanTell-gone verbose spare' can known told t less = record {
    short = AreShort-cancel p topic subs can.short;
    room = λ t'.
        let e : spare ≡ topics_held (after_cancel nat_eq p topic subs) + 1 = some_room verbose can known told t in
        omega arith;
  }

  -- nobody is told of a cancel
  pub CanTell-silent_cancel : CanTell tells spare subs 0 → tells ≡ false → CanTell tells spare (after_cancel nat_eq p topic subs) 0
  CanTell-silent_cancel can silent = record {
    short = AreShort-cancel p topic subs can.short;
    room = λ told. absurd (cc);
  }

-- a peer came
pub CanTell-with : (tells : Bool) (spare : ℕ) (p : ℕ) (subs : Subscribers ℕ) → CanTell tells spare subs 0 → CanTell tells spare (with_peer p subs) 0
CanTell-with tells spare p subs can = record {
  short = AreShort-with p subs can.short;
  room = λ told. can.room told ∙ ap (λ n. n + 0) (sym (held-with p subs));
}

-- a peer went, and nobody is told
pub CanTell-silent : (tells : Bool) (spare : ℕ) (p : ℕ) (subs : Subscribers ℕ) → CanTell tells spare subs 0 → tells ≡ false → CanTell tells spare (without_peer nat_eq p subs) 0
CanTell-silent tells spare p subs can silent = record {
  short = AreShort-without p subs can.short;
  room = λ told. absurd (cc);
}

-- a peer went, and the room of what is told of it was spent
pub CanTell-without : (tells : Bool) (spare spare' : ℕ) (p : ℕ) (subs : Subscribers ℕ) → CanTell tells spare subs 0 → tells ≡ true → spare' ≡ spare - length (topics_of nat_eq subs p)
    → CanTell tells spare' (without_peer nat_eq p subs) 0
CanTell-without tells spare spare' p subs can t is = record {
  short = AreShort-without p subs can.short;
  room = λ told.
      let was : spare ≡ topics_held subs + 0 = can.room t in
      let held : topics_held (without_peer nat_eq p subs) + length (topics_of nat_eq subs p) ≡ topics_held subs = held-without p subs in
      omega arith;
}

-- a peer's topics have their room
pub room_of : (tells : Bool) (spare : ℕ) (p : ℕ) (subs : Subscribers ℕ) → CanTell tells spare subs 0 → tells ≡ true → length (topics_of nat_eq subs p) ≤ spare
room_of tells spare p subs can t =
    let was : spare ≡ topics_held subs + 0 = can.room t in
    let held : topics_held (without_peer nat_eq p subs) + length (topics_of nat_eq subs p) ≡ topics_held subs = held-without p subs in
    omega arith

-- the same topics and user
pub CanTell-as : (tells tells' : Bool) (spare : ℕ) (subs subs' : Subscribers ℕ) (more : ℕ) → tells' ≡ tells → subs' ≡ subs → CanTell tells spare subs more → CanTell tells' spare subs' more
CanTell-as tells tells' spare subs subs' more t s can =
    subst (λ x. CanTell x spare subs' more) (sym t) (subst (λ l. CanTell tells spare l more) (sym s) can)

-- the room for one more was spent, or wasn't kept
pub CanTell-spent : (tells : Bool) (spare spare' : ℕ) (subs : Subscribers ℕ) (news : Bool) → news ≡ true → spare' ≡ spare - 1 → CanTell tells spare subs (cond news 1 0) → CanTell tells spare' subs 0
CanTell-spent tells spare spare' subs news told less can = record {
  short = can.short;
  room = λ t.
      let was : spare ≡ topics_held subs + cond news 1 0 = can.room t in
      let one : ◌≡◌ {A = ℕ} (cond news 1 0) 1 = ap (λ b. cond {A = ℕ} b 1 0) told in
      omega (arith, one, was);
}

pub CanTell-unspent : (tells : Bool) (spare : ℕ) (subs : Subscribers ℕ) (news : Bool) → news ≡ false → CanTell tells spare subs (cond news 1 0) → CanTell tells spare subs 0
CanTell-unspent tells spare subs news untold can = subst (λ b. CanTell tells spare subs (cond b 1 0)) untold can
