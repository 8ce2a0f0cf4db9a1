-- Each item of a deed is by its worker.
use Rattle.std.specs.Prelude.{◌≡◌, ◌<◌, ◌≤◌, ◌==◌, ◌+◌, ℕ, zero, suc, Bool, true, false, cond, List, [], ◌∷◌, ◌++◌, length, map, nat_lt, refl}
use Rattle.std.specs.List.{range_with_len}
use Rattle.std.proofs.Common.{arith, sym, ap, ◌∙◌, subst}
use Rattle.std.proofs.lemmas.Bool.{eqb-true, eqb-false, ltb-true, ltb-false}
use Rattle.std.proofs.lemmas.Grind.{flat_map-append}
use Rattle.spec_control.specs.Held.{caller_of}
use Rattle.spec_control.specs.Moments.{Moment, moments_by}
use Rattle.spec_run.specs.Act.{Act, Step, Said, Deed, Tries, Shuts, Fetches, Idles, Works, Looks, AsksRoot, Reads, acts_of, all_acts, moments_in}
use Rattle.spec_run.specs.Standing.{ActorStanding}
use Rattle.spec_run.specs.OwnedRun.{deeds_in, AreTold}
use Rattle.spec_run.specs.InTurns.{OneTurn, Turned, TurnsGo, turn_step, conductor_steps}
use Rattle.spec_run.specs.CoreEvents.{Made}
use Rattle.run_laws.proofs.GoesLemmas.{placed_both}
use Rattle.zq_world.specs.Piece.{AreActsBy}
use Rattle.zq_world.specs.ByEvents.{AreMadeBy}
use Rattle.replay_laws.proofs.TurnLemmas.{at_place, WorksSo, acts_so, reaps_so, serves_so, works_of, as_many, acts_on}
use Rattle.replay_laws.proofs.DeedLemmas.{made_of, steps_made, turn_made, turns_made, chosen_made}

module _ {N S : Type 0} where
  -- ---- the items of a caller
  all_by : (w : ℕ) (ms : List (Moment N S)) (acts : List (Act N S)) → moments_in acts ≡ moments_by w ms → AreActsBy w acts
  all_by w ms [] e = tt
  all_by w ms (Step s ∷ acts) e = all_by w ms acts e
  all_by w [] (Said m ∷ acts) e = absurd (nope e)
    where
      nope : ◌≡◌ {A = List (Moment N S)} (m ∷ moments_in acts) [] → ⊥
      nope f = cc
  all_by w (n ∷ ms) (Said m ∷ acts) e = by (caller_of n.item == w) refl e (all_by w ms (Said m ∷ acts)) (all_by w ms acts)
    where
      by : (b : Bool) → (caller_of n.item == w) ≡ b → m ∷ moments_in acts ≡ cond b (n ∷ moments_by w ms) (moments_by w ms) → (m ∷ moments_in acts ≡ moments_by w ms → (caller_of m.item ≡ w) × AreActsBy w acts) → (moments_in acts ≡ moments_by w ms → AreActsBy w acts)
          → (caller_of m.item ≡ w) × AreActsBy w acts
      by true is f later rest =
          let head : ◌≡◌ {A = Moment N S} m n = cc in
          let tail : moments_in acts ≡ moments_by w ms = cc in
          (ap (λ (x : Moment N S). caller_of x.item) head ∙ eqb-true (caller_of n.item) w is, rest tail)
      by false is f later rest = later f

  by_front : (w : ℕ) (xs ys : List (Act N S)) → AreActsBy w (xs ++ ys) → AreActsBy w xs
  by_front w [] ys by = tt
  by_front w (Step s ∷ xs) ys by = by_front w xs ys by
  by_front w (Said m ∷ xs) ys by = (by.0, by_front w xs ys by.1)

  by_behind : (w : ℕ) (xs ys : List (Act N S)) → AreActsBy w (xs ++ ys) → AreActsBy w ys
  by_behind w [] ys by = by
  by_behind w (Step s ∷ xs) ys by = by_behind w xs ys by
  by_behind w (Said m ∷ xs) ys by = by_behind w xs ys by.1

  -- ---- the workers of a run
  pub told_at : (f : ℕ → List (List (Deed N S))) (last : List (List (Deed N S))) (ms : List (Moment N S)) (k a : ℕ) → AreTold a ms (map f (range_with_len a k) ++ last ∷ []) → (w : ℕ) → a ≤ w → w < a + k → AreActsBy w (all_acts (deeds_in (f w)))
  told_at f last ms zero a told w le lt = absurd (omega (arith, le, lt))
  told_at f last ms (suc k) a told w le lt = by (a == w) refl (λ more. told_at f last ms k (a + 1) told.1 w more (omega (arith, lt)))
    where
      by : (b : Bool) → (a == w) ≡ b → (a + 1 ≤ w → AreActsBy w (all_acts (deeds_in (f w)))) → AreActsBy w (all_acts (deeds_in (f w)))
      by true e rest = subst (λ n. AreActsBy n (all_acts (deeds_in (f n)))) (eqb-true a w e) (all_by a ms (all_acts (deeds_in (f a))) told.0)
      by false e rest = rest (let other = eqb-false a w e in omega (arith, other, le))

  pub told_last : (f : ℕ → List (List (Deed N S))) (last : List (List (Deed N S))) (ms : List (Moment N S)) (k a : ℕ) → AreTold a ms (map f (range_with_len a k) ++ last ∷ []) → AreActsBy (a + k) (all_acts (deeds_in last))
  told_last f last ms zero a told = subst (λ n. AreActsBy n (all_acts (deeds_in last))) (omega arith) (all_by a ms (all_acts (deeds_in last)) told.0)
  told_last f last ms (suc k) a told = subst (λ n. AreActsBy n (all_acts (deeds_in last))) (omega arith) (told_last f last ms k (a + 1) told.1)

  -- ---- deeds of a worker
  deeds_made_by : (w : ℕ) (ds : List (Deed N S)) → AreActsBy w (all_acts ds) → AreMadeBy (made_of w ds)
  deeds_made_by w [] by = tt
  deeds_made_by w (Tries t ∷ ds) by = (by_front w (acts_of (Tries t)) (all_acts ds) by, deeds_made_by w ds (by_behind w (acts_of (Tries t)) (all_acts ds) by))
  deeds_made_by w (Shuts acts ∷ ds) by = (by_front w acts (all_acts ds) by, deeds_made_by w ds (by_behind w acts (all_acts ds) by))
  deeds_made_by w (Fetches slot acts ∷ ds) by = (by_front w acts (all_acts ds) by, deeds_made_by w ds (by_behind w acts (all_acts ds) by))
  deeds_made_by w (Idles m ∷ ds) by = deeds_made_by w ds by.1
  deeds_made_by w (Works acts ∷ ds) by = (by_front w acts (all_acts ds) by, deeds_made_by w ds (by_behind w acts (all_acts ds) by))
  deeds_made_by w (Looks m ∷ ds) by = deeds_made_by w ds by.1
  deeds_made_by w (AsksRoot acts ∷ ds) by = (by_front w acts (all_acts ds) by, deeds_made_by w ds (by_behind w acts (all_acts ds) by))
  deeds_made_by w (Reads now ∷ ds) by = (tt, deeds_made_by w ds by)

  both_made : (xs ys : List (Made N S)) → AreMadeBy xs → AreMadeBy ys → AreMadeBy (xs ++ ys)
  both_made xs ys one two = placed_both (λ (m : Made N S). AreActsBy m.worker (acts_of m.deed)) xs ys one two

  steps_made_by : (step : ℕ → List (Deed N S)) (ws : List ℕ) → ((w : ℕ) → AreActsBy w (all_acts (step w))) → AreMadeBy (steps_made step ws)
  steps_made_by step [] by = tt
  steps_made_by step (w ∷ ws) by = both_made (made_of w (step w)) (steps_made step ws) (deeds_made_by w (step w) (by w)) (steps_made_by step ws by)

  -- who has no step has no item
  no_step_by : (n w : ℕ) (old new : ActorStanding) (ds : List (Deed N S)) → WorksSo n old new w ds → n < w → AreActsBy w (all_acts ds)
  no_step_by n w old new ds (acts_so lt f) gt = absurd (omega (arith, lt, gt))
  no_step_by n w old new ds (reaps_so at f) gt = absurd (omega (arith, at, gt))
  no_step_by n w old new ds (serves_so more none) gt = subst (λ l. AreActsBy w (all_acts l)) (sym none) tt

  pub turns_made_by : (n : ℕ) (olds news : List ActorStanding) (ts : List (OneTurn N S)) (orders : List (List ℕ)) → length olds ≡ n → TurnsGo 1 olds ts news → ((w : ℕ) → w < n + 1 + 1 → AreActsBy w (all_acts (deeds_in (map (turn_step w) ts))))
      → AreActsBy (n + 1 + 1) (all_acts (deeds_in (map (λ turn. turn.begins ++ Reads turn.reading ∷ []) ts))) → AreMadeBy (turns_made n orders ts)
  turns_made_by n olds news ts [] many go workers conductor = tt
  turns_made_by n olds news [] (order ∷ orders) many go workers conductor = tt
  turns_made_by n olds news (t ∷ ts) (order ∷ orders) many go workers conductor =
      let begins = all_acts (t.begins ++ Reads t.reading ∷ []) in
      let split = acts_on (t.begins ++ Reads t.reading ∷ []) (deeds_in (map (λ turn. turn.begins ++ Reads turn.reading ∷ []) ts)) in
      let both = subst (AreActsBy (n + 1 + 1)) split conductor in
      let first = by_front (n + 1 + 1) begins (all_acts (deeds_in (map (λ turn. turn.begins ++ Reads turn.reading ∷ []) ts))) both in
      let begun = by_front (n + 1 + 1) (all_acts t.begins) [] (subst (AreActsBy (n + 1 + 1)) (acts_on t.begins (Reads t.reading ∷ [])) first) in
      both_made (turn_made n order t) (turns_made n orders ts)
      (both_made (made_of (n + 1 + 1) t.begins) (steps_made (λ w. turn_step w t) order ++ record { worker = n + 1 + 1; deed = Reads t.reading } ∷ []) (deeds_made_by (n + 1 + 1) t.begins begun)
      (both_made (steps_made (λ w. turn_step w t) order) (record { worker = n + 1 + 1; deed = Reads t.reading } ∷ []) (steps_made_by (λ w. turn_step w t) order (λ w. step_by w (nat_lt w (n + 1 + 1)) refl)) (tt, tt)))
      (turns_made_by n go.1.0 news ts orders (as_many 1 olds t.steps go.1.0 go.1.1 ∙ many) go.1.2 (λ w lt. by_behind w (all_acts (turn_step w t)) (all_acts (deeds_in (map (turn_step w) ts))) (parts w lt))
      (by_behind (n + 1 + 1) begins (all_acts (deeds_in (map (λ turn. turn.begins ++ Reads turn.reading ∷ []) ts))) both))
    where
      parts : (w : ℕ) → w < n + 1 + 1 → AreActsBy w (all_acts (turn_step w t) ++ all_acts (deeds_in (map (turn_step w) ts)))
      parts w lt = subst (AreActsBy w) (acts_on (turn_step w t) (deeds_in (map (turn_step w) ts))) (workers w lt)

      step_by : (w : ℕ) (b : Bool) → nat_lt w (n + 1 + 1) ≡ b → AreActsBy w (all_acts (turn_step w t))
      step_by w true e = by_front w (all_acts (turn_step w t)) (all_acts (deeds_in (map (turn_step w) ts))) (parts w (ltb-true w (n + 1 + 1) e))
      step_by w false e =
          let le = ltb-false w (n + 1 + 1) e in
          no_step_by (length olds) w (at_place olds w) (at_place go.1.0 w) (turn_step w t) (works_of 1 olds t.steps go.1.0 go.1.1 w) (omega (arith, le, many))

  pub chosen_made_by : (n : ℕ) (olds news : List ActorStanding) (t : Turned N S) (orders : List (List ℕ)) (ms : List (Moment N S)) → length olds ≡ n → TurnsGo 1 olds t.turns news
      → AreTold 0 ms (map (λ w. map (turn_step w) t.turns) (range_with_len 0 (n + 1 + 1)) ++ conductor_steps t ∷ []) → AreMadeBy (chosen_made n orders t)
  chosen_made_by n olds news t orders ms many go told =
      let steps = map (λ turn. turn.begins ++ Reads turn.reading ∷ []) t.turns in
      let last = subst (λ k. AreActsBy k (all_acts (deeds_in (steps ++ (Looks t.last ∷ []) ∷ [])))) (plain (n + 1 + 1)) (told_last (λ w. map (turn_step w) t.turns) (conductor_steps t) ms (n + 1 + 1) 0 told) in
      let conductor = by_front (n + 1 + 1) (all_acts (deeds_in steps)) (all_acts (Looks t.last ∷ []))
      (subst (AreActsBy (n + 1 + 1)) (ap all_acts (flat_map-append (λ (step : List (Deed N S)). step) steps ((Looks t.last ∷ []) ∷ [])) ∙ acts_on (deeds_in steps) (Looks t.last ∷ [])) last) in
      (tt, turns_made_by n olds news t.turns orders many go (λ w lt. told_at (λ v. map (turn_step v) t.turns) (conductor_steps t) ms (n + 1 + 1) 0 told w (omega arith) (omega (arith, lt))) conductor)
    where
      plain : (k : ℕ) → 0 + k ≡ k
      plain k = omega arith
