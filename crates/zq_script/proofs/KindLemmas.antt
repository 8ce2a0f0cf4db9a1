-- A word names the kind whose name it is, or none.
use Rattle.std.proofs.Common.{◌≡◌, ◌≢◌, refl, sym, ◌∙◌, ap, List, ℕ, Bool, true, false}
use Rattle.std.specs.Prelude.{Ok, Err}
use Rattle.std.specs.Str.{bytes_eq}
use Rattle.std.proofs.lemmas.Slice.Eq.{bytes_eq-Decides}
use Rattle.zq_base.specs.Kind.{kind_name}
use Rattle.zq_base.specs.declared.kind.Kind.{Kind}
use Rattle.zq_base.specs.declared.kind.Kind.TheVariants.{Push, Pull, Pair, Dealer, Req, Rep, Router, Pub, XPub, Sub, XSub}
use Rattle.zq_script.specs.Grammar.{kind_word}
use Rattle.zq_script.specs.declared.fault.Cause.TheVariants.{BadWord}

-- a test that can't be true
is_false : (b : Bool) → (b ≡ true → ⊥) → b ≡ false
is_false true h = absurd (h refl)
is_false false h = refl

-- the name of a kind
kind_word-name : (k : Kind) → kind_word (kind_name k) ≡ Ok k
unfolding kind_word
kind_word-name Push = refl
kind_word-name Pull = refl
kind_word-name Pair = refl
kind_word-name Dealer = refl
kind_word-name Req = refl
kind_word-name Rep = refl
kind_word-name Router = refl
kind_word-name Pub = refl
kind_word-name XPub = refl
kind_word-name Sub = refl
kind_word-name XSub = refl

pub kind_word-named : (word : List ℕ) (k : Kind) → kind_name k ≡ word → kind_word word ≡ Ok k
kind_word-named word k e = ap kind_word (sym e) ∙ kind_word-name k

-- the name of no kind
pub kind_word-other : (word : List ℕ) → ((k : Kind) → kind_name k ≢ word) → kind_word word ≡ Err BadWord
unfolding kind_word
kind_word-other word none =
    let other : (k : Kind) → bytes_eq word (kind_name k) ≡ false = λ k. is_false _ (λ same. none k (sym ((bytes_eq-Decides word (kind_name k)).0 same))) in
    rw (other Push, other Pull, other Pair, other Dealer, other Req, other Rep, other Router, other Pub, other XPub, other Sub, other XSub) refl
