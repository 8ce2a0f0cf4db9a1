-- A turn, of the workers' steps that were made in its order.
use Rattle.std.proofs.Common.{◌≡◌, ◌<◌, ◌+◌, ℕ, zero, suc, List, [], ◌∷◌, ◌++◌, Bool, true, false, Option, Some, None, length, map, refl, sym, ap, subst, ◌∙◌, arith}
use Rattle.std.specs.Prelude.{◌==◌, flat_map, nat_lt}
use Rattle.std.specs.List.{range_with_len}
use Rattle.std.proofs.lemmas.Bool.{ltb-true, ltb-false, eqb-true, eqb-false}
use Rattle.std.proofs.lemmas.List.FromFn.{get_or-map-range_with_len}
use Rattle.spec_run.specs.Act.{Deed}
use Rattle.spec_run.specs.OpenSocket.{OpenSock}
use Rattle.spec_run.specs.InTurns.{ActorStep, ReaperStep, AllStep, OneTurn, turn_step}
use Rattle.zq_world.specs.Piece.{Piece}
use Rattle.zq_world.specs.Stepping.{standing_of}
use Rattle.zq_world.specs.declared.actor.Actor.{Actor}
use Rattle.zq_world.specs.Turning.{times, standings, HasStepped, acted, reaped, served, TurnSteps}
use Rattle.zq_world.proofs.OrderLemmas.{times_it, times_not, each_once, no_others}

some_is : {X : Type 0} (x y : X) → ◌≡◌ {A = Option X} (Some x) (Some y) → x ≡ y
some_is x y e = cc

no_more : {X : Type 0} (x : X) → ◌≡◌ {A = Option X} None (Some x) → ⊥
no_more x e = cc

-- functions that agree on all numbers of a list
pub flat_same : {X : Type 0} (f g : ℕ → List X) (ns : List ℕ) → ((n : ℕ) → (times n ns ≡ 0 → ⊥) → f n ≡ g n) → flat_map f ns ≡ flat_map g ns
flat_same f g [] same = refl
flat_same f g (n ∷ ns) same =
    ap (λ l. l ++ flat_map f ns) (same n (λ e. let h = times_it n n ns refl in omega (arith, e, h)))
    ∙ ap (λ l. g n ++ l) (flat_same f g ns (λ m some. same m (λ e. some (fewer m e))))
  where
    fewer : (m : ℕ) → times m (n ∷ ns) ≡ 0 → times m ns ≡ 0
    fewer m e = by (n == m) refl
      where
        by : (b : Bool) → (n == m) ≡ b → times m ns ≡ 0
        by true is = let h = times_it m n ns (eqb-true n m is) in omega (arith, e, h)
        by false is = let h = times_not m n ns (eqb-false n m is) in omega (arith, e, h)

module _ {O N S : Type 0} (as_open : O → OpenSock) where
  -- what one actor's or the reaper's part says
  first_acts : (o n : Actor O) (os ns : List (Actor O)) (deeds : List (Deed N S)) → HasStepped as_open 0 (o ∷ os) (n ∷ ns) deeds → ActorStep (standing_of as_open o) deeds (standing_of as_open n)
  first_acts o n os ns deeds (acted a b was now does) =
      subst (λ (x : Actor O). ActorStep (standing_of as_open x) deeds (standing_of as_open n)) (sym (some_is o a was))
      (subst (λ (x : Actor O). ActorStep (standing_of as_open a) deeds (standing_of as_open x)) (sym (some_is n b now)) does.step)
  first_acts o n os ns deeds (reaped at step) = elim (never at) [ ]
    where
      never : 0 ≡ length (o ∷ os) → ⊥
      never e = omega (arith, e)
  first_acts o n os ns deeds (served past none) = elim (never past) [ ]
    where
      never : length (o ∷ os) < 0 → ⊥
      never e = omega (arith, e)

  others_act : (i : ℕ) (o n : Actor O) (os ns : List (Actor O)) (deeds : List (Deed N S)) → HasStepped as_open (suc i) (o ∷ os) (n ∷ ns) deeds → HasStepped as_open i os ns deeds
  others_act i o n os ns deeds (acted a b was now does) = acted a b was now does
  others_act i o n os ns deeds (reaped at step) = reaped (let e = at in omega (arith, e)) step
  others_act i o n os ns deeds (served past none) = served (let e = past in omega (arith, e)) none

  reaper_acts : (deeds : List (Deed N S)) → HasStepped as_open 0 [] [] deeds → ReaperStep deeds
  reaper_acts deeds (acted a b was now does) = elim (no_more a was) [ ]
  reaper_acts deeds (reaped at step) = step
  reaper_acts deeds (served past none) = elim (never past) [ ]
    where
      never : 0 < 0 → ⊥
      never e = omega (arith, e)

  server_acts : (deeds : List (Deed N S)) → HasStepped as_open 1 [] [] deeds → deeds ≡ []
  server_acts deeds (acted a b was now does) = elim (no_more a was) [ ]
  server_acts deeds (reaped at step) = elim (never at) [ ]
    where
      never : ◌≡◌ {A = ℕ} 1 0 → ⊥
      never e = omega (arith, e)
  server_acts deeds (served past none) = none

  -- each worker's step, in the order of their numbers
  all_step : (m k : ℕ) (olds news : List (Actor O)) (f : ℕ → List (Deed N S)) → m ≡ length olds + 2 → length news ≡ length olds
      → ((i j : ℕ) → j ≡ k + i → i < m → HasStepped as_open i olds news (f j)) → AllStep 1 (standings as_open olds) (map f (range_with_len k m)) (standings as_open news)
  all_step (suc (suc zero)) k [] [] f e c h =
      (reaper_acts (f k) (h 0 k (omega arith) (omega arith)), ap (λ (d : List (Deed N S)). d ∷ []) (server_acts (f (k + 1)) (h 1 (k + 1) (omega arith) (omega arith))), refl)
  all_step zero k [] news f e c h = elim (never e) [ ]
    where
      never : 0 ≡ length {A = Actor O} [] + 2 → ⊥
      never d = omega (arith, d)
  all_step (suc zero) k [] news f e c h = elim (never e) [ ]
    where
      never : 1 ≡ length {A = Actor O} [] + 2 → ⊥
      never d = omega (arith, d)
  all_step (suc (suc (suc m))) k [] news f e c h = elim (never e) [ ]
    where
      never : suc (suc (suc m)) ≡ length {A = Actor O} [] + 2 → ⊥
      never d = omega (arith, d)
  all_step (suc (suc zero)) k [] (n ∷ news) f e c h = cc
  all_step zero k (o ∷ olds) news f e c h = elim (never e) [ ]
    where
      never : 0 ≡ length (o ∷ olds) + 2 → ⊥
      never d = omega (arith, d)
  all_step (suc m) k (o ∷ olds) [] f e c h = cc
  all_step (suc m) k (o ∷ olds) (n ∷ news) f e c h = (
    first_acts o n olds news (f k) (h 0 k (omega arith) (omega arith)),
    all_step m (k + 1) olds news f (let d = e in omega (arith, d)) (let d = c in omega (arith, d))
        (λ i j is lt. others_act i o n olds news (f j) (h (suc i) j (omega (arith, is)) (omega (arith, lt)))),
  )

  -- the turn that begins so, with this reading at its end
  abbrev pub turn_of : List (Deed N S) → (ℕ → List (Deed N S)) → ℕ → ℕ → OneTurn N S
  turn_of begins f m reading = record { begins = begins; steps = map f (range_with_len 0 m); reading = reading }

  pub step_of : (begins : List (Deed N S)) (f : ℕ → List (Deed N S)) (m reading w : ℕ) → w < m → turn_step w (turn_of begins f m reading) ≡ f w
  step_of begins f m reading w lt = get_or-map-range_with_len f 0 m w w [] lt (omega arith)

  pub whole_turn : (seed drawn next : ℕ) (mid new : List (Actor O)) (before after : List (Piece N S)) (t : TurnSteps as_open seed drawn next mid new before after)
      → AllStep 1 (standings as_open mid) (map t.have.steps (range_with_len 0 (length mid + 2))) (standings as_open new)
  whole_turn seed drawn next mid new before after t =
      all_step (length mid + 2) 0 mid new t.have.steps refl t.have.count
      (λ i j is lt. subst (λ (n : ℕ). HasStepped as_open i mid new (t.have.steps n)) (omega (arith, is)) (t.have.stepped i (each_once i (length mid + 2) seed drawn t.order next t.is_order lt)))

  -- what its steps tell, as its order has them
  pub turn_told : {X : Type 0} (tells : ℕ → List (Deed N S) → List X) (seed drawn next reading : ℕ) (begins : List (Deed N S)) (mid new : List (Actor O)) (before after : List (Piece N S)) (t : TurnSteps as_open seed drawn next mid new before after)
      → flat_map (λ w. tells w (turn_step w (turn_of begins t.have.steps (length mid + 2) reading))) t.order ≡ flat_map (λ w. tells w (t.have.steps w)) t.order
  turn_told tells seed drawn next reading begins mid new before after t =
      flat_same (λ w. tells w (turn_step w (turn_of begins t.have.steps (length mid + 2) reading))) (λ w. tells w (t.have.steps w)) t.order
      (λ w some. ap (tells w) (step_of begins t.have.steps (length mid + 2) reading w (within w some (nat_lt w (length mid + 2)) refl)))
    where
      within : (w : ℕ) → (times w t.order ≡ 0 → ⊥) → (b : Bool) → nat_lt w (length mid + 2) ≡ b → w < length mid + 2
      within w some true e = ltb-true w (length mid + 2) e
      within w some false e = elim (some (no_others w (length mid + 2) seed drawn t.order next t.is_order (ltb-false w (length mid + 2) e))) [ ]
