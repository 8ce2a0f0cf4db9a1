-- Sets of peers, by their members.
use Rattle.std.proofs.Common.{◌≡◌, ◌∙◌, ℕ, Bool, true, false, not, cond, ◌||◌, ◌&&◌, List, [], ◌∷◌, ◌++◌, nat_eq, refl, sym, ap}
use Rattle.std.proofs.lemmas.List.Folds.{list_any-append}
use Rattle.std.specs.Cmp.{unsigned_tied, nat_eq_equiv}
use Rattle.std.specs.List.{list_any}
use Rattle.std.specs.Ordering.{nat_cmp, eq_by_cmp}
use Rattle.std.specs.BTreeSet.{BTreeSet, UpdatesBy}
use Rattle.std.specs.Cmp.Lexicographic.{slice_cmp, bytes_decides}
use Rattle.std.specs.Set.{KeepsOthers}
use Rattle.std.specs.Str.{bytes_eq}
use Rattle.std.specs.declared.vec.Vec.{Vec}
use Rattle.spec_pattern.specs.Topics.{Topic, is_among}
use Rattle.sub_table.specs.View.{is_peer, topics_in}
use Rattle.sub_table.proofs.ViewLemmas.{at_key, key_cmp, any-topics_in, is_key_test, are_apart}

-- a number that ties is the number
pub is_peer-ties : (q : ℕ) (ks : List ℕ) → list_any (eq_by_cmp nat_cmp q) ks ≡ is_peer ks q
is_peer-ties q [] = refl
is_peer-ties q (k ∷ ks) = λ j. unsigned_tied q k j || is_peer-ties q ks j

-- a choice between an answer that is fixed and another
pub cond-or : (b x : Bool) → cond b true x ≡ (b || x)
cond-or true x = refl
cond-or false x = refl

pub cond-not_and : (b x : Bool) → cond b false x ≡ (not b && x)
cond-not_and true x = refl
cond-not_and false x = refl

-- a set with one peer more
pub is_peer-added : (p : ℕ) (old new : List ℕ) (q : ℕ)
    → list_any (eq_by_cmp nat_cmp q) new ≡ cond (eq_by_cmp nat_cmp p q) true (list_any (eq_by_cmp nat_cmp q) old)
    → is_peer new q ≡ (nat_eq p q || is_peer old q)
is_peer-added p old new q h =
    sym (is_peer-ties q new) ∙ h ∙ cond-or (eq_by_cmp nat_cmp p q) (list_any (eq_by_cmp nat_cmp q) old)
    ∙ (λ j. unsigned_tied p q j || is_peer-ties q old j)

-- a set without a peer
pub is_peer-removed : (p : ℕ) (old new : List ℕ) (q : ℕ)
    → list_any (eq_by_cmp nat_cmp q) new ≡ cond (eq_by_cmp nat_cmp p q) false (list_any (eq_by_cmp nat_cmp q) old)
    → is_peer new q ≡ (not (nat_eq p q) && is_peer old q)
is_peer-removed p old new q h =
    sym (is_peer-ties q new) ∙ h ∙ cond-not_and (eq_by_cmp nat_cmp p q) (list_any (eq_by_cmp nat_cmp q) old)
    ∙ (λ j. not (unsigned_tied p q j) && is_peer-ties q old j)

or_last : (x a b : Bool) → (x || (a || b)) ≡ (a || (b || x))
or_last true true b = refl
or_last true false true = refl
or_last true false false = refl
or_last false true b = refl
or_last false false true = refl
or_last false false false = refl

-- a set to which one of a list of peers is added, behind those before it
pub is_peer-one_more : (p : ℕ) (start mid new xs ys : List ℕ) (q : ℕ)
    → is_peer new q ≡ (nat_eq p q || is_peer mid q)
    → is_peer mid q ≡ (is_peer start q || is_peer xs q)
    → ys ≡ xs ++ p ∷ []
    → is_peer new q ≡ (is_peer start q || is_peer ys q)
is_peer-one_more p start mid new xs ys q added before ys_are =
    added ∙ (λ j. nat_eq_equiv.symm p q j || before j)
    ∙ or_last (nat_eq q p) (is_peer start q) (is_peer xs q)
    ∙ ap (λ b. is_peer start q || b) (ap (λ b. is_peer xs q || b) (or_nothing (nat_eq q p)) ∙ sym (list_any-append (nat_eq q) xs (p ∷ [])) ∙ ap (λ l. is_peer l q) (sym ys_are))
  where
    or_nothing : (b : Bool) → b ≡ (b || false)
    or_nothing true = refl
    or_nothing false = refl

module _ {A : Type 0} where
  -- a set of topics after one was put in or taken out
  pub is_among-updated : (topic t : Topic) (m n : BTreeSet (Vec ℕ A)) (b : Bool) → UpdatesBy key_cmp (λ k. slice_cmp nat_cmp topic k.items) m n b
      → is_among (topics_in n.keys) t ≡ cond (bytes_eq topic t) b (is_among (topics_in m.keys) t)
  unfolding KeepsOthers
  is_among-updated topic t m n b u = by (bytes_eq topic t) refl
    where
      by : (c : Bool) → bytes_eq topic t ≡ c → is_among (topics_in n.keys) t ≡ cond c b (is_among (topics_in m.keys) t)
      by true same = ap (is_among (topics_in n.keys)) (sym ((bytes_decides topic t).0 same)) ∙ sym (any-topics_in topic n.keys) ∙ u.1
      by false other = sym (any-topics_in t n.keys) ∙ u.3 (at_key {A = A} t) (is_key_test {A = A} t) (are_apart {A = A} topic t other) ∙ any-topics_in t m.keys

  -- one more
  pub is_among-added : (topic : Topic) (m n : BTreeSet (Vec ℕ A)) → UpdatesBy key_cmp (λ k. slice_cmp nat_cmp topic k.items) m n true
      → (t : Topic) → is_among (topics_in n.keys) t ≡ (bytes_eq topic t || is_among (topics_in m.keys) t)
  is_among-added topic m n u t = is_among-updated topic t m n true u ∙ cond-or (bytes_eq topic t) (is_among (topics_in m.keys) t)

  -- one less
  pub is_among-removed : (topic : Topic) (m n : BTreeSet (Vec ℕ A)) → UpdatesBy key_cmp (λ k. slice_cmp nat_cmp topic k.items) m n false
      → (t : Topic) → is_among (topics_in n.keys) t ≡ (not (bytes_eq topic t) && is_among (topics_in m.keys) t)
  is_among-removed topic m n u t = is_among-updated topic t m n false u ∙ cond-not_and (bytes_eq topic t) (is_among (topics_in m.keys) t)
