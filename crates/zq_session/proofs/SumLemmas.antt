-- Counts that stay at the greatest number, and what a tally keeps of the messages taken.
use Rattle.std.proofs.Common.{◌≡◌, ℕ, ◌+◌, ◌-◌, Bool, true, false, sym, ap, subst, ◌∙◌, arith}
use Rattle.spec_link.specs.Rows.{count_of}
use Rattle.zq_session.specs.declared.tally.Tally.{Tally}
use Rattle.zq_session.specs.Tallies.{AreTaken, TalliesNext, with_takes, written_by, lost_by}

-- ---- sums of counts

pub sum_of : (a b n m : ℕ) → a ≡ count_of n → b ≡ count_of m → count_of (a + b) ≡ count_of (n + m)
sum_of a b n m e d =
    let s : count_of (count_of n + count_of m) ≡ count_of (n + m) = omega arith in
    ap (λ (k : ℕ). count_of (k + b)) e ∙ ap (λ (k : ℕ). count_of (count_of n + k)) d ∙ s

pub one_counts : 1 ≡ count_of 1
one_counts = omega arith

pub none_counts : 0 ≡ count_of 0
none_counts = omega arith

-- ---- messages taken

pub took_more : (b : Bool) (s s' n : ℕ) → b ≡ true → s' ≡ count_of (s + 1) → AreTaken b s n → AreTaken b s' (n + 1)
took_more true s s' n e es k = (k.0 + 1, ap (λ (m : ℕ). m + 1) k.1, es ∙ sum_of s 1 k.0 1 k.2 one_counts)
took_more false s s' n e es k = absurd cc

pub took_first : (b : Bool) (s n : ℕ) → b ≡ false → AreTaken b s n → AreTaken true s (n + 1)
took_first true s n e k = absurd cc
took_first false s n e k = (0, ap (λ (m : ℕ). m + 1) k.0, k.1 ∙ none_counts)

none_written : (left : Bool) → 0 ≡ count_of (written_by left 0)
none_written true = none_counts
none_written false = none_counts

none_lost : (left : Bool) → 0 ≡ count_of (lost_by left 0)
none_lost true = none_counts
none_lost false = none_counts

pub landed_none : (left b : Bool) (s n : ℕ) → b ≡ false → AreTaken b s n → 0 ≡ count_of (written_by left n)
landed_none left true s n e k = absurd cc
landed_none left false s n e k = none_written left ∙ ap (λ (m : ℕ). count_of (written_by left m)) (sym k.0)

pub landed_left : (left b : Bool) (s n : ℕ) → left ≡ true → b ≡ true → AreTaken b s n → s ≡ count_of (written_by left n)
landed_left true true s n e d k = (let m : n - 1 ≡ k.0 = omega (arith, k.1) in k.2 ∙ ap count_of (sym m))
landed_left true false s n e d k = absurd cc
landed_left false b s n e d k = absurd cc

pub landed_all : (left b : Bool) (s s' n : ℕ) → left ≡ false → b ≡ true → s' ≡ count_of (s + 1) → AreTaken b s n → s' ≡ count_of (written_by left n)
landed_all true b s s' n e d es k = absurd cc
landed_all false true s s' n e d es k = es ∙ sum_of s 1 k.0 1 k.2 one_counts ∙ ap count_of (sym k.1)
landed_all false false s s' n e d es k = absurd cc

pub adrift_none : (left b : Bool) (s n : ℕ) → b ≡ false → AreTaken b s n → 0 ≡ count_of (lost_by left n)
adrift_none left true s n e k = absurd cc
adrift_none left false s n e k = none_lost left ∙ ap (λ (m : ℕ). count_of (lost_by left m)) (sym k.0)

pub adrift_left : (left b : Bool) (s n : ℕ) → left ≡ true → b ≡ true → AreTaken b s n → 1 ≡ count_of (lost_by left n)
adrift_left true true s n e d k = (let m : 1 ≡ n - (n - 1) = omega (arith, k.1) in one_counts ∙ ap count_of m)
adrift_left true false s n e d k = absurd cc
adrift_left false b s n e d k = absurd cc

pub adrift_all : (left : Bool) (n : ℕ) → left ≡ false → 0 ≡ count_of (lost_by left n)
adrift_all true n e = absurd cc
adrift_all false n e = none_counts

-- where none is taken the tally is as it was
pub none_taken_next : (t : Tally) → TalliesNext (with_takes 0) t t
none_taken_next t = λ x k. record {
  links_is = k.links_is;
  heard_is = k.heard_is;
  put_is = k.put_is;
  written_is = k.written_is;
  lost_is = k.lost_is;
  last_is = k.last_is;
  taken_is = subst (λ (n : ℕ). AreTaken t.flying t.settled n) (let n : x.taken ≡ x.taken + 0 = omega arith in n) k.taken_is;
}
