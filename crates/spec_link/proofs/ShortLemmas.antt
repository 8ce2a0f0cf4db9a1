-- Topics that are short stay so.
use Rattle.std.proofs.Common.{◌≡◌, ℕ, Bool, true, false, cond, List, [], ◌∷◌, length, zero, suc, Option, Some, subst}
use Rattle.std.specs.Prelude.{slice_get, nat_eq}
use Rattle.std.specs.declared.vec.Vec.{Vec}
use Rattle.std.specs.Ordering.{nat_cmp, match_ordering}
use Rattle.std.specs.declared.cmp.Ordering.{Ordering}
use Rattle.std.specs.declared.cmp.Ordering.TheVariants.{Less, Equal, Greater}
use Rattle.std.specs.Cmp.Lexicographic.{slice_cmp}
use Rattle.std.specs.Str.{bytes_eq}
use Rattle.zq_base.specs.Message.{Frames}
use Rattle.spec_pattern.specs.Topics.{Topic, with_topic, without_topic, IsTopic}
use Rattle.sub_table.specs.View.{topics_in}
use Rattle.spec_link.specs.Topics.{Topics, AreShort, IsLeft}

-- with one more
pub short_with : (t : Topic) (ts : List Topic) → IsTopic t → AreShort ts → AreShort (with_topic t ts)
short_with t [] s k = (s, tt)
short_with t (x ∷ ts) s k = by (slice_cmp nat_cmp t x) (short_with t ts s k.1)
  where
    by : (o : Ordering) → AreShort (with_topic t ts) → AreShort (match_ordering o (t ∷ x ∷ ts) (x ∷ ts) (x ∷ with_topic t ts))
    by Less rest = (s, k)
    by Equal rest = k
    by Greater rest = (k.0, rest)

-- without one
pub short_without : (t : Topic) (ts : List Topic) → AreShort ts → AreShort (without_topic t ts)
short_without t [] k = k
short_without t (x ∷ ts) k = by (bytes_eq t x) (short_without t ts k.1)
  where
    by : (b : Bool) → AreShort (without_topic t ts) → AreShort (cond b ts (x ∷ without_topic t ts))
    by true rest = k.1
    by false rest = (k.0, rest)

-- one of them
pub short_at : {A : Type 0} (ks : List (Vec ℕ A)) (n : ℕ) (k : Vec ℕ A) → AreShort (topics_in ks) → slice_get ks n ≡ Some k → IsTopic k.items
short_at [] n k s e = absurd cc
short_at (x ∷ ks) zero k s e = subst (λ (y : Vec ℕ _). IsTopic y.items) (same e) s.0
  where
    same : Some x ≡ Some k → x ≡ k
    same d = cc
short_at (x ∷ ks) (suc n) k s e = short_at ks n k s.1 e

-- a message is left where they are not none
pub left_some : (again : Option (List Frames)) (l : List Frames) → again ≡ Some l → nat_eq (length l) 0 ≡ false → IsLeft true again
left_some again [] e some = absurd cc
left_some again (m ∷ rest) e some = (m, rest, e)

-- these topics, with these messages
abbrev pub topics_with : Option (List Frames) → List Topic → Topics
topics_with again taken = record { taken = taken; again = again }
