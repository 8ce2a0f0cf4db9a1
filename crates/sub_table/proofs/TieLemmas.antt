-- Each peer's topics and each topic's peers go on saying the same.
use Rattle.std.proofs.Common.{◌≡◌, ◌∙◌, ℕ, Bool, true, false, not, ◌||◌, ◌&&◌, List, nat_eq, refl, sym, ap}
use Rattle.std.proofs.lemmas.Map.Views.{exact_unsigned_eq}
use Rattle.std.specs.Cmp.{nat_eq_equiv}
use Rattle.std.specs.Cmp.Lexicographic.{bytes_decides}
use Rattle.std.specs.List.{list_any}
use Rattle.std.specs.List.Sorted.{IsStrictlySortedBy}
use Rattle.std.specs.Ordering.{nat_cmp}
use Rattle.std.specs.Map.{keys_of}
use Rattle.std.specs.Str.{bytes_eq}
use Rattle.spec_pattern.specs.Topics.{Topic, Subscribers, has_topic, others_have}
use Rattle.sub_table.specs.View.{holders_of, holds, Gains, Loses}
use Rattle.sub_table.specs.Tables.{AreTied}
use Rattle.sub_table.proofs.AnyLemmas.{any_gives, any_at, both_ways, row_is_key}
use Rattle.sub_table.proofs.RowLemmas.{row_of_topic}

module _ (subs new : Subscribers ℕ) (held : List (Topic × List ℕ)) where
  -- the peers' topics stay
  pub AreTied-rows : IsStrictlySortedBy nat_cmp (keys_of new) → AreTied subs held → ((q : ℕ) (t : Topic) → has_topic nat_eq new q t ≡ has_topic nat_eq subs q t) → AreTied new held
  AreTied-rows order tied same = record {
    same = λ t p. tied.same t p ∙ sym (same p t);
    order = order;
  }

  swapped : (a b : Bool) → (a && b) ≡ (b && a)
  swapped true true = refl
  swapped true false = refl
  swapped false true = refl
  swapped false false = refl

  -- a peer has a topic more
  pub AreTied-more : (topic : Topic) (peer : ℕ) (after : List (Topic × List ℕ)) → IsStrictlySortedBy nat_cmp (keys_of new) → AreTied subs held → Gains topic peer held after
      → ((q : ℕ) (t : Topic) → has_topic nat_eq new q t ≡ ((nat_eq peer q && bytes_eq topic t) || has_topic nat_eq subs q t))
      → AreTied new after
  AreTied-more topic peer after order tied gains more = record {
    same = λ t p. gains t p ∙ (λ j. swapped (bytes_eq topic t) (nat_eq peer p) j || tied.same t p j) ∙ sym (more p t);
    order = order;
  }

  -- a peer has a topic less
  pub AreTied-less : (topic : Topic) (peer : ℕ) (after : List (Topic × List ℕ)) → IsStrictlySortedBy nat_cmp (keys_of new) → AreTied subs held → Loses topic peer held after
      → ((q : ℕ) (t : Topic) → has_topic nat_eq new q t ≡ (not (nat_eq peer q && bytes_eq topic t) && has_topic nat_eq subs q t))
      → AreTied new after
  AreTied-less topic peer after order tied loses less = record {
    same = λ t p. loses t p ∙ (λ j. not (swapped (bytes_eq topic t) (nat_eq peer p) j) && tied.same t p j) ∙ sym (less p t);
    order = order;
  }

-- what a topic gained and lost again is what was, where the peer hadn't the topic
pub AreTied-undone : (subs : Subscribers ℕ) (held mid after : List (Topic × List ℕ)) (peer : ℕ) (topic : Topic) → AreTied subs held
    → has_topic nat_eq subs peer topic ≡ false → Gains topic peer held mid → Loses topic peer mid after → AreTied subs after
AreTied-undone subs held mid after peer topic tied new gains loses = record {
  same = λ t p. loses t p ∙ ap (λ b. not (bytes_eq topic t && nat_eq peer p) && b) (gains t p) ∙ by t p (bytes_eq topic t) (nat_eq peer p) refl refl ∙ tied.same t p;
  order = tied.order;
}
  where
    by : (t : Topic) (p : ℕ) (a b : Bool) → bytes_eq topic t ≡ a → nat_eq peer p ≡ b → (not (a && b) && ((a && b) || holds held t p)) ≡ holds held t p
    by t p true true here there =
        sym new ∙ ap (λ q. has_topic nat_eq subs q topic) (exact_unsigned_eq peer p there) ∙ ap (has_topic nat_eq subs p) ((bytes_decides topic t).0 here) ∙ sym (tied.same t p)
    by t p true false here there = refl
    by t p false b here there = refl

-- the peers of a topic are what they were
pub AreTied-held : (subs : Subscribers ℕ) (held after : List (Topic × List ℕ)) → AreTied subs held
    → ((t : Topic) (q : ℕ) → holds after t q ≡ holds held t q) → AreTied subs after
AreTied-held subs held after tied same = record { same = λ t p. same t p ∙ tied.same t p; order = tied.order }

-- whether others have a topic, seen from the topic and from the peers
pub others-held : (subs : Subscribers ℕ) (held : List (Topic × List ℕ)) (peer : ℕ) (topic : Topic) → AreTied subs held
    → list_any (λ q. not (nat_eq peer q)) (holders_of held topic) ≡ others_have nat_eq subs peer topic
others-held subs held peer topic tied = both_ways _ _ there back
  where
    both : (a b : Bool) → a ≡ true → b ≡ true → (a && b) ≡ true
    both true b x y = y
    both false b x y = x

    first : (a b : Bool) → (a && b) ≡ true → a ≡ true
    first true b h = refl
    first false b h = h

    second : (a b : Bool) → (a && b) ≡ true → b ≡ true
    second true b h = h
    second false true h = refl
    second false false h = h

    there : list_any (λ q. not (nat_eq peer q)) (holders_of held topic) ≡ true → others_have nat_eq subs peer topic ≡ true
    there h =
        let r = any_gives nat_eq nat_eq_equiv.refl (λ q. not (nat_eq peer q)) (holders_of held topic) h in
        let has : has_topic nat_eq subs r.0 topic ≡ true = sym (tied.same topic r.0) ∙ r.1 in
        any_at nat_eq exact_unsigned_eq (λ q. not (nat_eq peer q) && has_topic nat_eq subs q topic) (keys_of subs) r.0
        (sym (row_is_key r.0 subs) ∙ row_of_topic subs r.0 topic has) (both (not (nat_eq peer r.0)) (has_topic nat_eq subs r.0 topic) r.2 has)

    back : others_have nat_eq subs peer topic ≡ true → list_any (λ q. not (nat_eq peer q)) (holders_of held topic) ≡ true
    back h =
        let r = any_gives nat_eq nat_eq_equiv.refl (λ q. not (nat_eq peer q) && has_topic nat_eq subs q topic) (keys_of subs) h in
        any_at nat_eq exact_unsigned_eq (λ q. not (nat_eq peer q)) (holders_of held topic) r.0
        (tied.same topic r.0 ∙ second (not (nat_eq peer r.0)) (has_topic nat_eq subs r.0 topic) r.2) (first (not (nat_eq peer r.0)) (has_topic nat_eq subs r.0 topic) r.2)
