-- Which ends of an object are there behind an event.
use Rattle.std.specs.Prelude.{◌≡◌, ◌==◌, ◌&&◌, ℕ, Bool, true, false, not, cond, List, [], ◌∷◌, ◌++◌, Some, All, filter, refl}
use Rattle.std.proofs.Common.{arith, sym, ap, ◌∙◌}
use Rattle.std.proofs.lemmas.Bool.{eq-eqb, ne_eqb}
use Rattle.std.proofs.lemmas.List.{append-nil}
use Rattle.std.proofs.lemmas.List.Elements.{All-head, All-tail, All-weaker, All-nil, All-cons, filter-append}
use Rattle.zq_base.specs.declared.ids.EndId.{EndId}
use Rattle.spec_control.specs.declared.entry.Did.{Did}
use Rattle.spec_control.specs.Place.{is_here}
use Rattle.spec_control.specs.Control.{Control, owner_of, place_of}
use Rattle.spec_control.specs.After.{after}
use Rattle.spec_control.specs.ControlRun.{Fits}
use Rattle.spec_control.specs.Held.{subject_of}
use Rattle.control_laws.specs.Kept.{Kept}
use Rattle.control_laws.specs.Move.{Move}
use Rattle.control_laws.specs.OwnMoves.{own_moves}
use Rattle.desk.specs.Lent.{here_ends}
use Rattle.control_laws.proofs.LeadLemmas.{attached_by, goes_by, New, old_end, new_ends}
use Rattle.control_laws.proofs.AttachedLemmas.{attached_after}
use Rattle.control_laws.proofs.AttachedOnceLemmas.{IsOld, AreOld}
use Rattle.control_laws.proofs.OwnerLemmas.{mine_all}

-- ---- a list of which some are left
module _ {X : Type 0} (od hd oc hc g : X → Bool) where
  record Same (x : X) : Type 0 where
    own : od x ≡ oc x
    here : hd x ≡ (not (g x) && hc x)

  two : (xs : List X) → All Same xs → filter hd (filter od xs) ≡ filter (λ x. not (g x)) (filter hc (filter oc xs))
  two [] all = refl
  two (x ∷ xs) all = by (oc x) refl (hc x) refl (g x) refl (two xs (All-tail Same x xs all))
    where
      first : Same x
      first = All-head Same x xs all

      left : (b : Bool) → od x ≡ b → filter hd (filter od (x ∷ xs)) ≡ filter hd (cond b (x ∷ filter od xs) (filter od xs))
      left b is = ap (λ (y : Bool). filter hd (cond y (x ∷ filter od xs) (filter od xs))) is

      right : (b : Bool) → oc x ≡ b → filter (λ y. not (g y)) (filter hc (cond b (x ∷ filter oc xs) (filter oc xs))) ≡ filter (λ y. not (g y)) (filter hc (filter oc (x ∷ xs)))
      right b is = ap (λ (y : Bool). filter (λ z. not (g z)) (filter hc (cond y (x ∷ filter oc xs) (filter oc xs)))) (sym is)

      here_left : (b : Bool) → hd x ≡ b → filter hd (x ∷ filter od xs) ≡ cond b (x ∷ filter hd (filter od xs)) (filter hd (filter od xs))
      here_left b is = ap (λ (y : Bool). cond y (x ∷ filter hd (filter od xs)) (filter hd (filter od xs))) is

      by : (o : Bool) → oc x ≡ o → (h : Bool) → hc x ≡ h → (k : Bool) → g x ≡ k → filter hd (filter od xs) ≡ filter (λ y. not (g y)) (filter hc (filter oc xs)) →
          filter hd (filter od (x ∷ xs)) ≡ filter (λ y. not (g y)) (filter hc (filter oc (x ∷ xs)))
      by false o h _ k _ rest = left false (first.own ∙ o) ∙ rest ∙ right false o
      by true o false h k _ rest =
          left true (first.own ∙ o) ∙ here_left false (first.here ∙ ap (λ (b : Bool). not (g x) && b) h ∙ none (not (g x))) ∙ rest
          ∙ ap (λ (b : Bool). filter (λ y. not (g y)) (cond b (x ∷ filter hc (filter oc xs)) (filter hc (filter oc xs)))) (sym h) ∙ right true o
        where
          none : (b : Bool) → (b && false) ≡ false
          none true = refl
          none false = refl
      by true o true h true e rest =
          left true (first.own ∙ o) ∙ here_left false (first.here ∙ ap (λ (b : Bool). not b && hc x) e) ∙ rest
          ∙ ap (λ (b : Bool). cond (not b) (x ∷ filter (λ y. not (g y)) (filter hc (filter oc xs))) (filter (λ y. not (g y)) (filter hc (filter oc xs)))) (sym e)
          ∙ ap (λ (b : Bool). filter (λ y. not (g y)) (cond b (x ∷ filter hc (filter oc xs)) (filter hc (filter oc xs)))) (sym h) ∙ right true o
      by true o true h false e rest =
          left true (first.own ∙ o) ∙ here_left true (first.here ∙ ap (λ (b : Bool). not b && hc x) e ∙ h) ∙ ap (λ (ys : List X). x ∷ ys) rest
          ∙ ap (λ (b : Bool). cond (not b) (x ∷ filter (λ y. not (g y)) (filter hc (filter oc xs))) (filter (λ y. not (g y)) (filter hc (filter oc xs)))) (sym e)
          ∙ ap (λ (b : Bool). filter (λ y. not (g y)) (cond b (x ∷ filter hc (filter oc xs)) (filter hc (filter oc xs)))) (sym h) ∙ right true o

module _ {X : Type 0} (h o : X → Bool) where
  all_in : (xs : List X) → All (λ x. o x ≡ true) xs → All (λ x. h x ≡ true) xs → filter h (filter o xs) ≡ xs
  all_in [] own here = refl
  all_in (x ∷ xs) own here =
      ap (λ (b : Bool). filter h (cond b (x ∷ filter o xs) (filter o xs))) (All-head (λ y. o y ≡ true) x xs own)
      ∙ ap (λ (b : Bool). cond b (x ∷ filter h (filter o xs)) (filter h (filter o xs))) (All-head (λ y. h y ≡ true) x xs here)
      ∙ ap (λ (ys : List X). x ∷ ys) (all_in xs (All-tail (λ y. o y ≡ true) x xs own) (All-tail (λ y. h y ≡ true) x xs here))

  none_in : (xs : List X) → All (λ x. o x ≡ false) xs → filter h (filter o xs) ≡ []
  none_in [] other = refl
  none_in (x ∷ xs) other =
      ap (λ (b : Bool). filter h (cond b (x ∷ filter o xs) (filter o xs))) (All-head (λ y. o y ≡ false) x xs other) ∙ none_in xs (All-tail (λ y. o y ≡ false) x xs other)

-- ---- one event
module _ {N S : Type 0} (c : Control) (did : Did N S) (kept : Kept c) (fits : Fits c did) (old : AreOld c) where
  abbrev d : Control
  d = after did c

  abbrev ms : List Move
  ms = own_moves c did

  left_ones : (i : ℕ) → filter (λ e. is_here (place_of d e)) (filter (λ e. owner_of d e == i) c.attached) ≡ filter (λ e. not (goes_by e ms)) (here_ends c.rows.pairs c.attached i)
  left_ones i =
      two (λ e. owner_of d e == i) (λ e. is_here (place_of d e)) (λ e. owner_of c e == i) (λ e. is_here (place_of c e)) (λ e. goes_by e ms) c.attached
      (All-weaker (IsOld c) (Same (λ e. owner_of d e == i) (λ e. is_here (place_of d e)) (λ e. owner_of c e == i) (λ e. is_here (place_of c e)) (λ e. goes_by e ms)) same c.attached old)
    where
      same : (e : EndId) → IsOld c e → Same (λ e. owner_of d e == i) (λ e. is_here (place_of d e)) (λ e. owner_of c e == i) (λ e. is_here (place_of c e)) (λ e. goes_by e ms) e
      same e o = let s = old_end c did kept fits e o.within o.at in record { own = ap (λ (n : ℕ). n == i) s.owner; here = s.there }

  all_ends : (i : ℕ) → here_ends d.rows.pairs d.attached i ≡ filter (λ e. not (goes_by e ms)) (here_ends c.rows.pairs c.attached i) ++ filter (λ e. is_here (place_of d e)) (filter (λ e. owner_of d e == i) (attached_by ms))
  all_ends i =
      ap (λ (es : List EndId). filter (λ e. is_here (place_of d e)) (filter (λ e. owner_of d e == i) es)) (attached_after c did)
      ∙ ap (filter (λ e. is_here (place_of d e))) (filter-append (λ e. owner_of d e == i) c.attached (attached_by ms))
      ∙ filter-append (λ e. is_here (place_of d e)) (filter (λ e. owner_of d e == i) c.attached) (filter (λ e. owner_of d e == i) (attached_by ms))
      ∙ ap (λ (es : List EndId). es ++ filter (λ e. is_here (place_of d e)) (filter (λ e. owner_of d e == i) (attached_by ms))) (left_ones i)

  some_is : {x y : ℕ} → Some x ≡ Some y → x ≡ y
  some_is f = Prim.grind arith

  -- of the object whose event it is
  pub here_mine : (i : ℕ) → subject_of did ≡ Some i → All (λ e. goes_by e ms ≡ false) (attached_by ms) →
      here_ends d.rows.pairs d.attached i ≡ filter (λ e. not (goes_by e ms)) (here_ends c.rows.pairs c.attached i) ++ attached_by ms
  here_mine i is none =
      all_ends i ∙ ap (λ (es : List EndId). filter (λ e. not (goes_by e ms)) (here_ends c.rows.pairs c.attached i) ++ es)
      (all_in (λ e. is_here (place_of d e)) (λ e. owner_of d e == i) (attached_by ms)
      (All-weaker (λ e. subject_of did ≡ Some (owner_of d e)) (λ e. (owner_of d e == i) ≡ true) (λ e own. eq-eqb (owner_of d e) i (some_is (sym own ∙ is))) (attached_by ms) (mine_all c kept did fits))
      (joined (attached_by ms) (new_ends c did kept fits) none))
    where
      joined : (es : List EndId) → All (New ms d) es → All (λ e. goes_by e ms ≡ false) es → All (λ e. is_here (place_of d e) ≡ true) es
      joined [] new stay = All-nil (λ e. is_here (place_of d e) ≡ true)
      joined (e ∷ es) new stay =
          All-cons (λ e. is_here (place_of d e) ≡ true) e es ((All-head (New ms d) e es new).there (All-head (λ e. goes_by e ms ≡ false) e es stay))
          (joined es (All-tail (New ms d) e es new) (All-tail (λ e. goes_by e ms ≡ false) e es stay))

  -- and of another
  pub here_others : (i : ℕ) → (subject_of did ≡ Some i → ⊥) → here_ends d.rows.pairs d.attached i ≡ filter (λ e. not (goes_by e ms)) (here_ends c.rows.pairs c.attached i)
  here_others i other =
      all_ends i ∙ ap (λ (es : List EndId). filter (λ e. not (goes_by e ms)) (here_ends c.rows.pairs c.attached i) ++ es)
      (none_in (λ e. is_here (place_of d e)) (λ e. owner_of d e == i) (attached_by ms)
      (All-weaker (λ e. subject_of did ≡ Some (owner_of d e)) (λ e. (owner_of d e == i) ≡ false) (λ e own. ne_eqb (owner_of d e) i (λ same. other (own ∙ ap (λ (n : ℕ). Some n) same))) (attached_by ms) (mine_all c kept did fits)))
      ∙ append-nil (filter (λ e. not (goes_by e ms)) (here_ends c.rows.pairs c.attached i))
