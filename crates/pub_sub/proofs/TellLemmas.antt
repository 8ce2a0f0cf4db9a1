-- A peer is told what differs, one topic after the other.
use Rattle.std.proofs.Common.{◌≡◌, ◌∙◌, ℕ, Bool, true, false, cond, ◌||◌, ◌==◌, List, [], ◌∷◌, ◌++◌, Some, None, All, refl, sym, ap, subst, inl, inr, arith}
use Rattle.std.proofs.lemmas.List.{append-nil}
use Rattle.std.proofs.lemmas.List.Elements.{All-head, All-tail}
use Rattle.std.proofs.lemmas.Map.Views.{All-insert_key, All-remove_key}
use Rattle.std.specs.BTreeSet.{insert_key}
use Rattle.std.specs.Cmp.Lexicographic.{slice_cmp, bytes_decides, nat_list_eq_equiv}
use Rattle.std.specs.Map.{keys_of}
use Rattle.std.specs.Ordering.{nat_cmp, match_ordering}
use Rattle.std.specs.Prelude.{◌⊎◌}
use Rattle.std.specs.Set.{remove_key}
use Rattle.std.specs.Str.{bytes_eq}
use Rattle.std.specs.declared.cmp.Ordering.{Ordering}
use Rattle.std.specs.declared.cmp.Ordering.TheVariants.{Less, Equal, Greater}
use Rattle.spec_pattern.specs.PipeStep.{PipeStep, Commit, FullLook}
use Rattle.spec_pattern.specs.TurnList.{End}
use Rattle.spec_pattern.specs.Topics.{Topic, topic_cmp, is_among, with_topic, without_topic, IsTopic}
use Rattle.spec_pattern.specs.Wanted.{Wanted, wants, difference}
use Rattle.spec_pattern.specs.Subscribing.{tell_message, told_after, EndsTelling, TellsOn, TellsWhere}
use Rattle.pub_sub.specs.Telling.{TellsThrough, IsTelling, TellsAt, TellsChange, StaysFollower}
use Rattle.pub_sub.specs.declared.follower.Follower.{Follower}
use Rattle.pub_sub.proofs.WeightLemmas.{ties, difference_is}

-- one more is told
TellsThrough-more : (wanted : Wanted) (e : End) (first told : List Topic) (changes : List (ℕ × Topic)) (steps : List PipeStep) (change : ℕ × Topic)
    → TellsThrough wanted e first changes steps told → difference told wanted ≡ Some change
    → TellsThrough wanted e first (changes ++ change ∷ []) (steps ++ Commit e (tell_message change) ∷ []) (told_after change told)
TellsThrough-more wanted e first told [] steps change h is = (
  subst (λ l. difference l wanted ≡ Some change) h.1 is,
  [],
  (refl, ap (told_after change) h.1),
  ap (λ l. l ++ Commit e (tell_message change) ∷ []) h.0,
)
TellsThrough-more wanted e first told (c ∷ changes) steps change h is = (
  h.0,
  h.1 ++ Commit e (tell_message change) ∷ [],
  TellsThrough-more wanted e (told_after c first) told changes h.1 change h.2 is,
  ap (λ l. l ++ Commit e (tell_message change) ∷ []) h.3,
)

-- telling is over
TellsThrough-ends : (wanted : Wanted) (e : End) (first told : List Topic) (changes : List (ℕ × Topic)) (steps last : List PipeStep)
    → TellsThrough wanted e first changes steps told → EndsTelling (difference told wanted) e last → TellsOn wanted e first changes (steps ++ last) told
TellsThrough-ends wanted e first told [] steps last h ends = (
  subst (λ l. EndsTelling (difference first wanted) e (l ++ last)) (sym h.0) (subst (λ l. EndsTelling (difference l wanted) e last) h.1 ends),
  h.1,
)
TellsThrough-ends wanted e first told (c ∷ changes) steps last h ends = (
  h.0,
  h.1 ++ last,
  TellsThrough-ends wanted e (told_after c first) told changes h.1 last h.2 ends,
  ap (λ l. l ++ last) h.3,
)

module _ {S : Type 0} (runs : S → List PipeStep → S → Type 0) (ends : ℕ → End) where
  -- nothing was told yet
  pub IsTelling-none : (s : S) (wanted : Wanted) (place : ℕ) (told : List Topic) → runs s [] s → IsTelling runs ends s s wanted place told told
  IsTelling-none s wanted place told none = record { changes = []; steps = []; runs_are = none; through = (refl, refl) }

  -- a peer that can't be written is told nothing
  pub TellsAt-shut : (open_ : Bool) (s : S) (wanted : Wanted) (place : ℕ) (told : List Topic) → open_ ≡ false → runs s [] s → TellsAt runs ends open_ s s wanted place told told
  TellsAt-shut open_ s wanted place told shut none = record {
    steps = [];
    runs_are = none;
    tells = subst (λ b. TellsWhere b wanted (ends place) told [] told) (sym shut) (refl, refl);
  }

module _ {S : Type 0} (runs : S → List PipeStep → S → Type 0)
    (on : (s t u : S) (before after : List PipeStep) → runs s before t → runs t after u → runs s (before ++ after) u)
    (ends : ℕ → End) (start now next : S) (wanted : Wanted) (place : ℕ) (first told told' : List Topic) where
  -- one more is told
  pub IsTelling-more : (change : ℕ × Topic) → difference told wanted ≡ Some change → IsTelling runs ends start now wanted place first told → TellsChange runs ends now next place change true told told'
      → IsTelling runs ends start next wanted place first told'
  IsTelling-more change is h one = record {
    changes = h.changes ++ change ∷ [];
    steps = h.steps ++ Commit (ends place) (tell_message change) ∷ [];
    runs_are = on start now next h.steps (Commit (ends place) (tell_message change) ∷ []) h.runs_are one.runs_are;
    through = subst (TellsThrough wanted (ends place) first (h.changes ++ change ∷ []) (h.steps ++ Commit (ends place) (tell_message change) ∷ [])) (sym one.told_is)
        (TellsThrough-more wanted (ends place) first told h.changes h.steps change h.through is);
  }

  -- the pipe was full
  pub TellsAt-full : (change : ℕ × Topic) → difference told wanted ≡ Some change → IsTelling runs ends start now wanted place first told → TellsChange runs ends now next place change false told told'
      → TellsAt runs ends true start next wanted place first told'
  TellsAt-full change is h one = record {
    steps = h.steps ++ FullLook (ends place) ∷ [];
    runs_are = on start now next h.steps (FullLook (ends place) ∷ []) h.runs_are one.runs_are;
    tells = (
      h.changes,
      subst (TellsOn wanted (ends place) first h.changes (h.steps ++ FullLook (ends place) ∷ [])) (sym one.told_is)
          (TellsThrough-ends wanted (ends place) first told h.changes h.steps (FullLook (ends place) ∷ []) h.through
          (subst (λ d. EndsTelling d (ends place) (FullLook (ends place) ∷ [])) (sym is) refl)),
    );
  }

-- nothing differs
pub TellsAt-all : {S : Type 0} (runs : S → List PipeStep → S → Type 0) (ends : ℕ → End) (start now : S) (wanted : Wanted) (place : ℕ) (first told : List Topic)
    → difference told wanted ≡ None → IsTelling runs ends start now wanted place first told → TellsAt runs ends true start now wanted place first told
TellsAt-all runs ends start now wanted place first told is h = record {
  steps = h.steps;
  runs_are = h.runs_are;
  tells = (
    h.changes,
    subst (λ l. TellsOn wanted (ends place) first h.changes l told) (append-nil h.steps)
        (TellsThrough-ends wanted (ends place) first told h.changes h.steps [] h.through (subst (λ d. EndsTelling d (ends place) []) (sym is) refl)),
  );
}

-- ---- a topic that is told, and isn't

-- what is put in and taken out again was never there
pub without-with : (t : Topic) (ts : List Topic) → is_among ts t ≡ false → without_topic t (with_topic t ts) ≡ ts
without-with t [] new = ap (λ b. cond b [] (t ∷ [])) (nat_list_eq_equiv.refl t)
without-with t (x ∷ xs) new = by (slice_cmp nat_cmp t x) refl (bytes_eq t x) refl new (λ h. without-with t xs h)
  where
    by : (o : Ordering) → slice_cmp nat_cmp t x ≡ o → (b : Bool) → bytes_eq t x ≡ b → (b || is_among xs t) ≡ false → (is_among xs t ≡ false → without_topic t (with_topic t xs) ≡ xs)
        → remove_key (bytes_eq t) (match_ordering o (t ∷ x ∷ xs) (x ∷ xs) (x ∷ insert_key (slice_cmp nat_cmp) xs t)) ≡ x ∷ xs
    by o is true same out rest = absurd (cc)
    by Less is false other out rest = ap (λ b. cond b (x ∷ xs) (t ∷ remove_key (bytes_eq t) (x ∷ xs))) (nat_list_eq_equiv.refl t)
    by Equal is false other out rest = absurd (let e : bytes_eq t x ≡ true = ties t x is in (cc))
    by Greater is false other out rest = ap (λ b. cond b (insert_key (slice_cmp nat_cmp) xs t) (x ∷ remove_key (bytes_eq t) (insert_key (slice_cmp nat_cmp) xs t))) other ∙ ap (λ l. x ∷ l) (rest out)

All-among : (P : Topic → Type 0) (ts : List Topic) (t : Topic) → All P ts → is_among ts t ≡ true → P t
All-among P [] t all there = absurd (cc)
All-among P (x ∷ xs) t all there = by (bytes_eq t x) refl there (λ h. All-among P xs t (All-tail P x xs all) h)
  where
    by : (b : Bool) → bytes_eq t x ≡ b → (b || is_among xs t) ≡ true → (is_among xs t ≡ true → P t) → P t
    by true same h rest = subst P (sym ((bytes_decides t x).0 same)) (All-head P x xs all)
    by false other h rest = rest h

-- a topic that has to be told can be
pub short_change : (wanted : Wanted) (told : List Topic) (change : ℕ × Topic) → All IsTopic (keys_of wanted) → All IsTopic told → difference told wanted ≡ Some change → IsTopic change.1
short_change wanted told change w t is = by change (difference_is wanted told change is)
  where
    by : (c : ℕ × Topic) → ((c.0 ≡ 1) × (is_among (keys_of wanted) c.1 ≡ true) × (is_among told c.1 ≡ false)) ⊎ ((c.0 ≡ 0) × (is_among told c.1 ≡ true) × (wants wanted c.1 ≡ false)) → IsTopic c.1
    by c (inl new) = All-among IsTopic (keys_of wanted) c.1 w new.1
    by c (inr gone) = All-among IsTopic told c.1 t gone.1

-- what was told stays short
pub short_after : (change : ℕ × Topic) (told : List Topic) → IsTopic change.1 → All IsTopic told → All IsTopic (told_after change told)
short_after change told short all = by (change.0 == 1)
  where
    by : (b : Bool) → All IsTopic (cond b (with_topic change.1 told) (without_topic change.1 told))
    by true = All-insert_key topic_cmp change.1 IsTopic told all short
    by false = All-remove_key (bytes_eq change.1) IsTopic told all

-- a topic that is told for the first time wasn't told
pub fresh_change : (wanted : Wanted) (told : List Topic) (t : Topic) → difference told wanted ≡ Some (1, t) → is_among told t ≡ false
fresh_change wanted told t is = by (1, t) refl (difference_is wanted told (1, t) is)
  where
    by : (c : ℕ × Topic) → c.0 ≡ 1 → ((c.0 ≡ 1) × (is_among (keys_of wanted) c.1 ≡ true) × (is_among told c.1 ≡ false)) ⊎ ((c.0 ≡ 0) × (is_among told c.1 ≡ true) × (wants wanted c.1 ≡ false)) → is_among told c.1 ≡ false
    by c one (inl new) = new.2
    by c one (inr gone) = absurd (let z : c.0 ≡ 0 = gone.0 in omega arith)

-- it was told at the end that is there
pub TellsChange-as : {S : Type 0} (runs : S → List PipeStep → S → Type 0) (ends ends' : ℕ → End) (old new : S) (place place' : ℕ) (change : ℕ × Topic) (room room' : Bool) (told told' after : List Topic)
    → ends ≡ ends' → place ≡ place' → room ≡ room' → told ≡ told' → TellsChange runs ends old new place change room told after → TellsChange runs ends' old new place' change room' told' after
TellsChange-as runs ends ends' old new place place' change room room' told told' after e p r t h =
    subst (λ (x : Type 0). x) (λ j. TellsChange runs (e j) old new (p j) change (r j) (t j) after) h

-- a peer stays one, whatever it was told
pub StaysFollower-on : (wanted : Wanted) (f g h : Follower) → StaysFollower wanted f g → StaysFollower wanted g h → StaysFollower wanted f h
StaysFollower-on wanted f g h a b = record { place_is = b.place_is ∙ a.place_is; follows = b.follows }
