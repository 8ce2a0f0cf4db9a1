-- Counts of lengths go on being those of the topics.
use Rattle.std.proofs.Common.{◌≡◌, ◌∙◌, ℕ, Bool, true, false, cond, ◌+◌, ◌-◌, ◌≤◌, ◌<◌, ◌||◌, List, [], ◌∷◌, length, nat_eq, Option, Some, None, nat_lt, refl, sym, ap, subst, arith}
use Rattle.std.proofs.lemmas.Bool.{ltb-false}
use Rattle.std.proofs.lemmas.Map.{keys-set_value}
use Rattle.std.proofs.lemmas.Map.Keys.{le_from_not_gt}
use Rattle.std.proofs.lemmas.Map.Views.{exact_unsigned_eq}
use Rattle.std.specs.BTreeMap.{BTreeMap, UpdatesBy, insert_entry, get}
use Rattle.std.specs.BTreeMap.Range.{IsLeBy}
use Rattle.std.specs.Cmp.{nat_eq_equiv}
use Rattle.std.specs.Cmp.Lexicographic.{bytes_decides}
use Rattle.std.specs.List.{list_any}
use Rattle.std.specs.Map.{keys_of, lookup, set_value, remove_entry}
use Rattle.std.specs.Option.{is_some, unwrap_or, IsSome}
use Rattle.std.specs.Ordering.{nat_cmp, eq_by_cmp, is_eq, is_gt, match_ordering}
use Rattle.std.specs.declared.cmp.Ordering.{Ordering}
use Rattle.std.specs.declared.cmp.Ordering.TheVariants.{Less, Equal, Greater}
use Rattle.std.specs.Str.{bytes_eq}
use Rattle.spec_pattern.specs.Topics.{Topic, topic_cmp}
use Rattle.sub_table.specs.Lengths.{AreLengths, OneMore, OneLess, so_long, number_of}
use Rattle.sub_table.proofs.RowLemmas.{same_peer}
use Rattle.sub_table.proofs.ViewLemmas.{octets_ties}

clash : false ≡ true → ⊥
clash e = cc

-- where none is so long, none is this topic
pub none_so_long : (t : Topic) (ts : List Topic) → so_long (length t) ts ≡ 0 → list_any (bytes_eq t) ts ≡ false
none_so_long t [] none = refl
none_so_long t (u ∷ ts) none = by (bytes_eq t u) refl (nat_eq (length u) (length t)) refl none (none_so_long t ts)
  where
    by : (a : Bool) → bytes_eq t u ≡ a → (b : Bool) → nat_eq (length u) (length t) ≡ b → cond b 1 0 + so_long (length t) ts ≡ 0
        → (so_long (length t) ts ≡ 0 → list_any (bytes_eq t) ts ≡ false) → (a || list_any (bytes_eq t) ts) ≡ false
    by true same true long none rest = absurd (omega (arith, none))
    by true same false other none rest =
        absurd (clash (sym other ∙ ap (nat_eq (length u)) (ap length ((bytes_decides t u).0 same)) ∙ nat_eq_equiv.refl (length u)))
    by false apart true long none rest = absurd (omega (arith, none))
    by false apart false other none rest = rest (omega (arith, none))

module _ {X : Type 0} where
  -- one more topic
  pub so_long-insert : (t : Topic) (v : X) (es : List (Topic × X)) → lookup (bytes_eq t) es ≡ None → (n : ℕ)
      → so_long n (keys_of (insert_entry topic_cmp es t v)) ≡ cond (nat_eq (length t) n) 1 0 + so_long n (keys_of es)
  so_long-insert t v [] new n = refl
  so_long-insert t v (e ∷ es) new n = by (topic_cmp t e.0) refl (bytes_eq t e.0) refl new (λ h. so_long-insert t v es h n)
    where
      none : Some e.1 ≡ None → ⊥
      none e = cc

      by : (o : Ordering) → topic_cmp t e.0 ≡ o → (b : Bool) → bytes_eq t e.0 ≡ b → cond b (Some e.1) (lookup (bytes_eq t) es) ≡ None
          → (lookup (bytes_eq t) es ≡ None → so_long n (keys_of (insert_entry topic_cmp es t v)) ≡ cond (nat_eq (length t) n) 1 0 + so_long n (keys_of es))
          → so_long n (keys_of (match_ordering o ((t, v) ∷ e ∷ es) ((e.0, v) ∷ es) (e ∷ insert_entry topic_cmp es t v)))
          ≡ cond (nat_eq (length t) n) 1 0 + (cond (nat_eq (length e.0) n) 1 0 + so_long n (keys_of es))
      by o is true same new rest = absurd (none new)
      by Less is false other new rest = refl
      by Equal is false other new rest = absurd (clash (sym other ∙ sym (octets_ties t e.0) ∙ ap is_eq is))
      by Greater is false other new rest = let h = rest new in omega (arith, h)

  -- one less
  so_long-remove : (t : Topic) (es : List (Topic × X)) → is_some (lookup (bytes_eq t) es) ≡ true → (n : ℕ)
      → so_long n (keys_of es) ≡ cond (nat_eq (length t) n) 1 0 + so_long n (keys_of (remove_entry (bytes_eq t) es))
  so_long-remove t [] there n = absurd (clash there)
  so_long-remove t (e ∷ es) there n = by (bytes_eq t e.0) refl there (λ h. so_long-remove t es h n)
    where
      by : (b : Bool) → bytes_eq t e.0 ≡ b → is_some (cond b (Some e.1) (lookup (bytes_eq t) es)) ≡ true
          → (is_some (lookup (bytes_eq t) es) ≡ true → so_long n (keys_of es) ≡ cond (nat_eq (length t) n) 1 0 + so_long n (keys_of (remove_entry (bytes_eq t) es)))
          → cond (nat_eq (length e.0) n) 1 0 + so_long n (keys_of es) ≡ cond (nat_eq (length t) n) 1 0 + so_long n (keys_of (cond b es (e ∷ remove_entry (bytes_eq t) es)))
      by true same there rest = ap (λ l. cond (nat_eq l n) 1 0 + so_long n (keys_of es)) (sym (ap length ((bytes_decides t e.0).0 same)))
      by false other there rest = let h = rest there in omega (arith, h)

  -- a topic that nobody had
  pub AreLengths-begun : (t : Topic) (v : X) (old new : List (Topic × X)) (counts after : List (ℕ × ℕ)) → new ≡ insert_entry topic_cmp old t v
      → lookup (bytes_eq t) old ≡ None → AreLengths (keys_of old) counts → OneMore (length t) counts after → AreLengths (keys_of new) after
  AreLengths-begun t v old new counts after is none are more n =
      more n ∙ ap (λ k. cond (nat_eq (length t) n) 1 0 + k) (are n) ∙ sym (so_long-insert t v old none n) ∙ sym (ap (λ es. so_long n (keys_of es)) is)

  -- a topic that went
  pub AreLengths-ended : (t : Topic) (old new : List (Topic × X)) (counts after : List (ℕ × ℕ)) → new ≡ remove_entry (bytes_eq t) old
      → is_some (lookup (bytes_eq t) old) ≡ true → AreLengths (keys_of old) counts → OneLess (length t) counts after → AreLengths (keys_of new) after
  AreLengths-ended t old new counts after is there are less n =
      less n ∙ taken (number_of counts n) (so_long n (keys_of (remove_entry (bytes_eq t) old))) (cond (nat_eq (length t) n) 1 0) (are n ∙ so_long-remove t old there n)
      ∙ sym (ap (λ es. so_long n (keys_of es)) is)
    where
      taken : (a b i : ℕ) → a ≡ i + b → a - i ≡ b
      taken a b i h = omega (arith, h)

  -- what stands at a topic changed
  pub AreLengths-set : (test : Topic → Bool) (v : X) (old new : List (Topic × X)) (counts : List (ℕ × ℕ)) → new ≡ set_value test old v
      → AreLengths (keys_of old) counts → AreLengths (keys_of new) counts
  AreLengths-set test v old new counts is are n = are n ∙ sym (ap (so_long n) (ap keys_of is ∙ keys-set_value test old v))

-- what was counted was taken back
pub AreLengths-undone : (l : ℕ) (topics : List Topic) (counts mid after : List (ℕ × ℕ)) → AreLengths topics counts → OneMore l counts mid → OneLess l mid after → AreLengths topics after
AreLengths-undone l topics counts mid after are more less n = less n ∙ back (number_of mid n) (number_of counts n) (cond (nat_eq l n) 1 0) (more n) ∙ are n
  where
    back : (a b i : ℕ) → a ≡ i + b → a - i ≡ b
    back a b i h = omega (arith, h)

-- a count as the tree finds it
pub number_of-found : (n : ℕ) (es : List (ℕ × ℕ)) (w : Option ℕ) → w ≡ lookup (eq_by_cmp nat_cmp n) es → unwrap_or w 0 ≡ number_of es n
number_of-found n es w is = ap (λ o. unwrap_or o 0) (is ∙ ap (λ test. lookup test es) (same_peer n))

-- the counts once one was set or taken out
pub number_of-updated : (l : ℕ) (m new : BTreeMap ℕ ℕ) (w : Option ℕ) → UpdatesBy nat_cmp (nat_cmp l) m new w
    → (n : ℕ) → number_of new.entries n ≡ cond (nat_eq l n) (unwrap_or w 0) (number_of m.entries n)
number_of-updated l m new w u n =
    sym (number_of-found n new.entries (lookup (eq_by_cmp nat_cmp n) new.entries) refl)
    ∙ ap (λ o. unwrap_or o 0) (u.0 n)
    ∙ by (eq_by_cmp nat_cmp l n)
    ∙ (λ j. cond (same_peer l j n) (unwrap_or w 0) (number_of-found n m.entries (lookup (eq_by_cmp nat_cmp n) m.entries) refl j))
  where
    by : (b : Bool) → unwrap_or (cond b w (lookup (eq_by_cmp nat_cmp n) m.entries)) 0 ≡ cond b (unwrap_or w 0) (unwrap_or (lookup (eq_by_cmp nat_cmp n) m.entries) 0)
    by true = refl
    by false = refl

-- a count is set to one more
pub OneMore-set : (l v : ℕ) (old new : List (ℕ × ℕ)) → ((n : ℕ) → number_of new n ≡ cond (nat_eq l n) v (number_of old n)) → v ≡ 1 + number_of old l → OneMore l old new
OneMore-set l v old new sets is n = sets n ∙ by (nat_eq l n) refl
  where
    by : (b : Bool) → nat_eq l n ≡ b → cond b v (number_of old n) ≡ cond b 1 0 + number_of old n
    by true same = is ∙ ap (λ k. 1 + number_of old k) (exact_unsigned_eq l n same)
    by false other = omega arith

-- and to one less
pub OneLess-set : (l v : ℕ) (old new : List (ℕ × ℕ)) → ((n : ℕ) → number_of new n ≡ cond (nat_eq l n) v (number_of old n)) → v ≡ number_of old l - 1 → OneLess l old new
OneLess-set l v old new sets is n = sets n ∙ by (nat_eq l n) refl
  where
    by : (b : Bool) → nat_eq l n ≡ b → cond b v (number_of old n) ≡ number_of old n - cond b 1 0
    by true same = is ∙ ap (λ k. number_of old k - 1) (exact_unsigned_eq l n same)
    by false other = omega arith

-- a number not below another isn't past it
pub not_past : (a b : ℕ) → a ≤ b → is_gt (nat_cmp a b) ≡ false
not_past a b h = by (nat_lt a b) refl (nat_eq a b) refl
  where
    by : (x : Bool) → nat_lt a b ≡ x → (y : Bool) → nat_eq a b ≡ y → is_gt (cond x Less (cond y Equal Greater)) ≡ false
    by true below y same = refl
    by false past true same = refl
    by false past false other =
        let k : b ≤ a = ltb-false a b past in
        let e : a ≡ b = omega (arith, h, k) in
        absurd (clash (sym other ∙ ap (nat_eq a) (sym e) ∙ nat_eq_equiv.refl a))

-- a length below the least that is there was not counted
pub none_below : (m : BTreeMap ℕ ℕ) (n least : ℕ) → (IsSome (get nat_cmp m n) → IsLeBy nat_cmp least n) → n < least → number_of m.entries n ≡ 0
none_below m n least found below = by (get nat_cmp m n) refl
  where
    by : (o : Option ℕ) → get nat_cmp m n ≡ o → number_of m.entries n ≡ 0
    by None none = sym (number_of-found n m.entries None (sym none))
    by (Some v) there = let l : least ≤ n = le_from_not_gt least n (found (subst IsSome (sym there) refl)) in absurd (omega (arith, l, below))
