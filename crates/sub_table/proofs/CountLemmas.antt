-- Counts of topics that stand in order.
use Rattle.std.proofs.Common.{◌≡◌, ◌∙◌, ℕ, Bool, true, false, cond, ◌+◌, ◌||◌, List, [], ◌∷◌, ◌++◌, length, map, take, Option, Some, None, refl, sym, ap, subst, Bor}
use Rattle.std.proofs.lemmas.List.Folds.{list_any-append}
use Rattle.std.specs.Cmp.Lexicographic.{nat_list_eq_equiv}
use Rattle.std.specs.List.{list_any}
use Rattle.std.specs.List.Sorted.{IsStrictlySortedBy}
use Rattle.std.specs.Map.{keys_of, lookup}
use Rattle.std.specs.Map.Iter.{deref}
use Rattle.std.specs.Option.{is_some, IfSome, IfNone}
use Rattle.std.specs.Str.{bytes_eq}
use Rattle.std.specs.declared.vec.Vec.{Vec}
use Rattle.spec_pattern.specs.Topics.{Topic, AreInOrder, is_among}
use Rattle.spec_pattern.specs.Wanted.{Wanted, wants, matches_wanted}
use Rattle.sub_table.specs.Lengths.{AreLengths, number_of}
use Rattle.sub_table.specs.View.{entries_of, topics_in}
use Rattle.sub_table.proofs.ViewLemmas.{key_cmp, AreInOrder-topics_in}
use Rattle.sub_table.proofs.LengthLemmas.{none_so_long}
use Rattle.sub_table.proofs.MatchLemmas.{any_below, matches-fronts}

module _ {K X : Type 0} (test : K → Bool) where
  -- what is found has a key
  pub found_is_key : (es : List (K × X)) → is_some (lookup test es) ≡ list_any test (keys_of es)
  found_is_key [] = refl
  found_is_key (e ∷ es) = by (test e.0) (found_is_key es)
    where
      by : (b : Bool) → is_some (lookup test es) ≡ list_any test (keys_of es) → is_some (cond b (Some e.1) (lookup test es)) ≡ (b || list_any test (keys_of es))
      by true rest = refl
      by false rest = rest

-- where none is found
pub nothing_found : {X : Type 0} (o : Option X) → is_some o ≡ false → o ≡ None
nothing_found None h = refl
nothing_found (Some x) h = cc

module _ {A X : Type 0} where
  -- a tree's topics, in order
  pub keys_of-entries_of : (es : List (Vec ℕ A × X)) → topics_in (keys_of es) ≡ keys_of (entries_of es)
  keys_of-entries_of [] = refl
  keys_of-entries_of (e ∷ es) = ap (λ l. e.0.items ∷ l) (keys_of-entries_of es)

  -- a tree's topics are in order
  pub entries_in_order : (es : List (Vec ℕ A × X)) → IsStrictlySortedBy key_cmp (keys_of es) → AreInOrder (keys_of (entries_of es))
  entries_in_order es order = subst AreInOrder (keys_of-entries_of es) (AreInOrder-topics_in (keys_of es) order)

-- a topic of a length that none has is not there
pub not_found : {X : Type 0} (es : List (Topic × X)) (counts : List (ℕ × ℕ)) → AreLengths (keys_of es) counts
    → (t : Topic) → number_of counts (length t) ≡ 0 → lookup (bytes_eq t) es ≡ None
not_found es counts are t none =
    nothing_found (lookup (bytes_eq t) es) (found_is_key (bytes_eq t) es ∙ none_so_long t (keys_of es) (sym (are (length t)) ∙ none))

-- what is so of a fact about what may be there is so of one that follows
pub if_some : {X : Type 0} {P Q : X → Type 0} (o : Option X) → ((x : X) → P x → Q x) → IfSome o P → IfSome o Q
if_some None then h = tt
if_some (Some x) then h = then x h

pub if_none : {X : Type 0} {P Q : Type 0} (o : Option X) → (P → Q) → IfNone o P → IfNone o Q
if_none None then h = then h
if_none (Some x) then h = tt

-- what is wanted matches where a front of the octets is wanted
pub matches_wanted-fronts : (wanted : Wanted) (octets : List ℕ) → any_below (length octets + 1) (λ i. wants wanted (take i octets)) ≡ matches_wanted wanted octets
matches_wanted-fronts wanted octets =
    (λ j. any_below (length octets + 1) (λ i. found_is_key (bytes_eq (take i octets)) wanted j))
    ∙ matches-fronts (keys_of wanted) octets

-- topics to which one of a list is added, behind those before it
pub is_among-one_more : (topic : Topic) (start mid new xs ys : List Topic) (t : Topic)
    → is_among new t ≡ (bytes_eq topic t || is_among mid t)
    → is_among mid t ≡ (is_among start t || is_among xs t)
    → ys ≡ xs ++ topic ∷ []
    → is_among new t ≡ (is_among start t || is_among ys t)
is_among-one_more topic start mid new xs ys t added before ys_are =
    added ∙ (λ j. nat_list_eq_equiv.symm topic t j || before j)
    ∙ or_last (bytes_eq t topic) (is_among start t) (is_among xs t)
    ∙ ap (λ b. is_among start t || b) (ap (λ b. is_among xs t || b) (or_nothing (bytes_eq t topic)) ∙ sym (list_any-append (bytes_eq t) xs (topic ∷ [])) ∙ ap (λ l. is_among l t) (sym ys_are))
  where
    or_nothing : (b : Bool) → b ≡ (b || false)
    or_nothing true = refl
    or_nothing false = refl

    or_last : (x a b : Bool) → (x || (a || b)) ≡ (a || (b || x))
    or_last true true b = refl
    or_last true false true = refl
    or_last true false false = refl
    or_last false true b = refl
    or_last false false true = refl
    or_last false false false = refl

module _ {A : Type 0} where
  -- topics that were lent, and one more
  pub topics_in-push : (xs : List (Bor (Vec ℕ A))) (x : Bor (Vec ℕ A)) → topics_in (map deref (xs ++ x ∷ [])) ≡ topics_in (map deref xs) ++ x.now.items ∷ []
  topics_in-push [] x = refl
  topics_in-push (y ∷ xs) x = ap (λ l. y.now.items ∷ l) (topics_in-push xs x)
