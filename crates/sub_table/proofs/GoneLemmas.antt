-- The topics that go with a peer, one after the other.
use Rattle.std.proofs.Common.{◌≡◌, ◌∙◌, ℕ, Bool, true, false, not, cond, ◌&&◌, List, [], ◌∷◌, filter, nat_eq, Option, Some, None, All, refl, sym, ap, subst}
use Rattle.std.proofs.lemmas.Map.{keys-set_value}
use Rattle.std.proofs.lemmas.List.Elements.{All-nil, All-cons}
use Rattle.std.proofs.lemmas.Map.Keys.{IsDistinct-head, IsDistinct-tail, IsDistinct-from_sorted}
use Rattle.std.proofs.lemmas.Map.Views.{exact_unsigned_eq}
use Rattle.std.specs.Cmp.{unsigned_tied}
use Rattle.std.specs.List.{list_any, IsDistinct, AllByRecursion}
use Rattle.std.specs.List.Sorted.{IsStrictlySortedBy}
use Rattle.std.specs.Ordering.{nat_cmp, eq_by_cmp}
use Rattle.std.specs.Map.{keys_of, lookup, set_value, remove_entry}
use Rattle.std.specs.Option.{is_some, unwrap_or}
use Rattle.spec_pattern.specs.Topics.{Topic, Subscribers, is_among, topics_of, has_topic, others_have, topics_gone, without_peer}
use Rattle.sub_table.specs.Tables.{ChangesOnly, TakesFirst}
use Rattle.sub_table.proofs.ViewLemmas.{set_value-absent}
use Rattle.sub_table.proofs.RowLemmas.{same_peer, set_value-found, set_value-twice, remove_entry-set_value, topics_of-set}

-- nothing was taken out yet
pub ChangesOnly-none : (p : ℕ) (subs : Subscribers ℕ) → ChangesOnly p subs subs
ChangesOnly-none p subs = sym (by (lookup (nat_eq p) subs) refl)
  where
    by : (o : Option (List Topic)) → lookup (nat_eq p) subs ≡ o → set_value (nat_eq p) subs (unwrap_or o []) ≡ subs
    by None none = set_value-absent (nat_eq p) subs [] (sym none)
    by (Some topics) found = set_value-found (nat_eq p) subs topics found

-- one after the other
pub ChangesOnly-then : (p : ℕ) (old mid new : Subscribers ℕ) → ChangesOnly p old mid → ChangesOnly p mid new → ChangesOnly p old new
ChangesOnly-then p old mid new first second =
    second ∙ ap (λ subs. set_value (nat_eq p) subs (topics_of nat_eq new p)) first
    ∙ set_value-twice (nat_eq p) old (topics_of nat_eq mid p) (topics_of nat_eq new p)

-- the topics of other peers stay
topics_of-others : (p q : ℕ) (es : Subscribers ℕ) (w : List Topic) → nat_eq p q ≡ false → topics_of nat_eq (set_value (nat_eq p) es w) q ≡ topics_of nat_eq es q
topics_of-others p q es w other = by (is_some (lookup (nat_eq p) es)) refl
  where
    absent : (o : Option (List Topic)) → is_some o ≡ false → None ≡ o
    absent None h = refl
    absent (Some x) h = cc

    by : (b : Bool) → is_some (lookup (nat_eq p) es) ≡ b → topics_of nat_eq (set_value (nat_eq p) es w) q ≡ topics_of nat_eq es q
    by true here = topics_of-set p w es here q ∙ ap (λ b. cond b w (topics_of nat_eq es q)) other
    by false gone = ap (λ subs. topics_of nat_eq subs q) (set_value-absent (nat_eq p) es w (absent (lookup (nat_eq p) es) gone))

-- and so does whether others have a topic
others_have-only : (p : ℕ) (old new : Subscribers ℕ) (u : Topic) → ChangesOnly p old new → others_have nat_eq new p u ≡ others_have nat_eq old p u
others_have-only p old new u only =
    ap (λ subs. others_have nat_eq subs p u) only
    ∙ ap (list_any (λ q. not (nat_eq p q) && has_topic nat_eq (set_value (nat_eq p) old w) q u)) (keys-set_value (nat_eq p) old w)
    ∙ (λ j. list_any (λ q. by q (nat_eq p q) refl j) (keys_of old))
  where
    w : List Topic
    w = topics_of nat_eq new p

    by : (q : ℕ) (b : Bool) → nat_eq p q ≡ b → (not b && has_topic nat_eq (set_value (nat_eq p) old w) q u) ≡ (not b && has_topic nat_eq old q u)
    by q true same = refl
    by q false other = ap (λ topics. is_among topics u) (topics_of-others p q old w other)

-- the topics that go, once the first was taken out
topics_gone-first : (p : ℕ) (t : Topic) (old new : Subscribers ℕ) (b : Bool) → TakesFirst p t old new → others_have nat_eq new p t ≡ b
    → topics_gone nat_eq old p ≡ cond (not b) (t ∷ topics_gone nat_eq new p) (topics_gone nat_eq new p)
topics_gone-first p t old new b takes others =
    (λ j. filter (λ u. not (sym (others_have-only p old new u takes.only) j)) (topics_of nat_eq old p))
    ∙ ap (filter (λ u. not (others_have nat_eq new p u))) takes.first
    ∙ ap (λ c. cond (not c) (t ∷ topics_gone nat_eq new p) (topics_gone nat_eq new p)) others

-- what goes is what went, behind a topic that others have
pub topics_gone-shared : (p : ℕ) (t : Topic) (old new : Subscribers ℕ) → TakesFirst p t old new → others_have nat_eq new p t ≡ true
    → topics_gone nat_eq new p ≡ topics_gone nat_eq old p
topics_gone-shared p t old new takes others = sym (topics_gone-first p t old new true takes others)

-- a topic that nobody else has goes
pub topics_gone-alone : (p : ℕ) (t : Topic) (old new : Subscribers ℕ) → TakesFirst p t old new → others_have nat_eq new p t ≡ false
    → topics_gone nat_eq old p ≡ t ∷ topics_gone nat_eq new p
topics_gone-alone p t old new takes others = topics_gone-first p t old new false takes others

-- where a peer has no topic left, none goes
pub topics_gone-none : (p : ℕ) (subs : Subscribers ℕ) → topics_of nat_eq subs p ≡ [] → topics_gone nat_eq subs p ≡ []
topics_gone-none p subs none = ap (filter (λ u. not (others_have nat_eq subs p u))) none

-- the peer goes from what is left as from what was
pub without_peer-only : (p : ℕ) (old new : Subscribers ℕ) → ChangesOnly p old new → without_peer nat_eq p new ≡ without_peer nat_eq p old
without_peer-only p old new only = ap (without_peer nat_eq p) only ∙ remove_entry-set_value (nat_eq p) old (topics_of nat_eq new p)

-- a peer without topics may go
pub has_topic-gone : (p : ℕ) (old new : Subscribers ℕ) → topics_of nat_eq old p ≡ []
    → ((q : ℕ) → lookup (nat_eq q) new ≡ cond (nat_eq p q) None (lookup (nat_eq q) old))
    → (q : ℕ) (t : Topic) → has_topic nat_eq new q t ≡ has_topic nat_eq old q t
has_topic-gone p old new none gone q t = ap (λ o. is_among (unwrap_or o []) t) (gone q) ∙ by (nat_eq p q) refl
  where
    by : (b : Bool) → nat_eq p q ≡ b → is_among (unwrap_or (cond b None (lookup (nat_eq q) old)) []) t ≡ has_topic nat_eq old q t
    by true same = ap (λ topics. is_among topics t) (sym none ∙ ap (topics_of nat_eq old) (exact_unsigned_eq p q same))
    by false other = refl

-- what a tree finds once a row went
pub lookup-gone : (p q : ℕ) (old new : Subscribers ℕ) → lookup (eq_by_cmp nat_cmp q) new ≡ cond (eq_by_cmp nat_cmp p q) None (lookup (eq_by_cmp nat_cmp q) old)
    → lookup (nat_eq q) new ≡ cond (nat_eq p q) None (lookup (nat_eq q) old)
lookup-gone p q old new h =
    ap (λ test. lookup test new) (sym (same_peer q)) ∙ h
    ∙ (λ j. cond (same_peer p j q) None (lookup (same_peer q j) old))

-- ---- nobody has the number of a peer that went

each_other : (p : ℕ) (ks : List ℕ) → AllByRecursion (λ k. nat_eq p k ≡ false) ks → All (λ k. nat_eq p k ≡ false) ks
each_other p [] all = All-nil (λ k. nat_eq p k ≡ false)
each_other p (k ∷ ks) all = All-cons (λ k. nat_eq p k ≡ false) k ks all.0 (each_other p ks all.1)

-- where no two entries have one number, none has the one that goes
pub others-left : {X : Type 0} (p : ℕ) (es : List (ℕ × X)) → IsDistinct nat_eq (keys_of es) → All (λ k. nat_eq p k ≡ false) (keys_of (remove_entry (nat_eq p) es))
others-left p [] apart = All-nil (λ k. nat_eq p k ≡ false)
others-left p (e ∷ es) apart = by (nat_eq p e.0) refl (others-left p es (IsDistinct-tail nat_eq e.0 (keys_of es) apart))
  where
    by : (b : Bool) → nat_eq p e.0 ≡ b → All (λ k. nat_eq p k ≡ false) (keys_of (remove_entry (nat_eq p) es))
        → All (λ k. nat_eq p k ≡ false) (keys_of (cond b es (e ∷ remove_entry (nat_eq p) es)))
    by true same rest =
        subst (λ q. All (λ k. nat_eq q k ≡ false) (keys_of es)) (sym (exact_unsigned_eq p e.0 same))
        (each_other e.0 (keys_of es) (IsDistinct-head nat_eq e.0 (keys_of es) apart))
    by false other rest = All-cons (λ k. nat_eq p k ≡ false) e.0 (keys_of (remove_entry (nat_eq p) es)) other rest

-- and so it is of entries in the order of their numbers
pub others-sorted : {X : Type 0} (p : ℕ) (es : List (ℕ × X)) → IsStrictlySortedBy nat_cmp (keys_of es) → All (λ k. nat_eq p k ≡ false) (keys_of (remove_entry (nat_eq p) es))
others-sorted p es order = others-left p es (subst (λ same. IsDistinct same (keys_of es)) (λ j a b. unsigned_tied a b j) (IsDistinct-from_sorted nat_cmp (keys_of es) order))
