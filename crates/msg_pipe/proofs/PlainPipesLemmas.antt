-- Plain pipes by number: a change of one leaves the others.
use Rattle.std.proofs.Common.{◌≡◌, ◌≢◌, ℕ, zero, suc, ◌+◌, ◌<◌, List, [], ◌∷◌, ◌++◌, length, set, refl, sym, ap, ◌∙◌, subst, arith, true, ltb, lt-ltb}
use Rattle.std.proofs.lemmas.List.{length-set, length-append}
use Rattle.std.specs.Prelude.{slice_index_or}
use Rattle.msg_pipe.specs.declared.plain_pipe.PlainPipe.{PlainPipe}
use Rattle.msg_pipe.specs.PlainPipes.{seen_at}

module _ {V : Type 0} (view : PlainPipe → V) (none : V) where
  pub seen_here : (ps : List PlainPipe) (n : ℕ) (p : PlainPipe) → slice_index_or ps n p ≡ p → n < length ps → seen_at view none ps n ≡ view p
  seen_here [] n p e lt = absurd (omega arith)
  seen_here (x ∷ xs) zero p e lt = ap view e
  seen_here (x ∷ xs) (suc n) p e lt = seen_here xs n p e (omega arith)

  pub seen_set : (ps : List PlainPipe) (n : ℕ) (p : PlainPipe) → n < length ps → seen_at view none (set ps n p) n ≡ view p
  seen_set [] n p lt = absurd (omega arith)
  seen_set (x ∷ xs) zero p lt = refl
  seen_set (x ∷ xs) (suc n) p lt = seen_set xs n p (omega arith)

  pub seen_else : (ps : List PlainPipe) (n m : ℕ) (p : PlainPipe) → m ≢ n → seen_at view none (set ps n p) m ≡ seen_at view none ps m
  seen_else [] n m p ne = refl
  seen_else (x ∷ xs) zero zero p ne = absurd (ne refl)
  seen_else (x ∷ xs) zero (suc m) p ne = refl
  seen_else (x ∷ xs) (suc n) zero p ne = refl
  seen_else (x ∷ xs) (suc n) (suc m) p ne = seen_else xs n m p (λ e. ne (ap suc e))

  -- where the pipe is seen as it was, so are all
  pub seen_same : (ps : List PlainPipe) (n m : ℕ) (p q : PlainPipe) → slice_index_or ps n p ≡ p → view q ≡ view p → seen_at view none (set ps n q) m ≡ seen_at view none ps m
  seen_same [] n m p q e v = refl
  seen_same (x ∷ xs) zero zero p q e v = v ∙ sym (ap view e)
  seen_same (x ∷ xs) zero (suc m) p q e v = refl
  seen_same (x ∷ xs) (suc n) zero p q e v = refl
  seen_same (x ∷ xs) (suc n) (suc m) p q e v = seen_same xs n m p q e v

  pub seen_last : (ps : List PlainPipe) (p : PlainPipe) (n : ℕ) → n ≡ length ps → seen_at view none (ps ++ p ∷ []) n ≡ view p
  seen_last [] p zero e = refl
  seen_last [] p (suc n) e = absurd (omega arith)
  seen_last (x ∷ xs) p zero e = absurd (omega arith)
  seen_last (x ∷ xs) p (suc n) e = seen_last xs p n (omega arith)

  pub seen_before : (ps : List PlainPipe) (p : PlainPipe) (n : ℕ) → n < length ps → seen_at view none (ps ++ p ∷ []) n ≡ seen_at view none ps n
  seen_before [] p n lt = absurd (omega arith)
  seen_before (x ∷ xs) p zero lt = refl
  seen_before (x ∷ xs) p (suc n) lt = seen_before xs p n (omega arith)

  -- what holds of the two views of the pipe holds of them by number
  pub relates : (R : V → V → Type 0) (ps : List PlainPipe) (n : ℕ) (p q : PlainPipe) → p ≡ slice_index_or ps n p → n < length ps → R (view p) (view q) → R (seen_at view none ps n) (seen_at view none (set ps n q) n)
  relates R ps n p q e lt r =
      let was = seen_here ps n p (sym e) lt in
      let is = seen_set ps n q lt in
      subst (λ (x : V × V). R x.0 x.1) (λ k. (sym was k, sym is k)) r

-- a pipe that is there stays there
pub there_set : (ps : List PlainPipe) (n m : ℕ) (q : PlainPipe) → ltb m (length ps) ≡ true → ltb m (length (set ps n q)) ≡ true
there_set ps n m q lt = subst (λ (k : ℕ). ltb m k ≡ true) (sym (length-set ps n q)) lt

pub there_more : (ps : List PlainPipe) (p : PlainPipe) (l : List PlainPipe) (m : ℕ) → l ≡ ps ++ p ∷ [] → m < length ps + 1 → ltb m (length l) ≡ true
there_more ps p l m e lt = lt-ltb m (length l) (let x = ap length e in let y = length-append ps (p ∷ []) in omega (arith, x, y, lt))
