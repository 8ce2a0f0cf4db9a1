-- The deeds of a run in turns but for its looks, in their order and worker by worker.
use Rattle.std.specs.Prelude.{◌≡◌, ◌≢◌, ◌<◌, ◌==◌, ◌+◌, ℕ, Bool, true, false, List, [], ◌∷◌, ◌++◌, filter, flat_map, map, refl}
use Rattle.std.specs.List.{range_with_len}
use Rattle.std.proofs.Common.{arith, sym, ap, ◌∙◌, append-nil}
use Rattle.std.proofs.lemmas.Bool.{eqb-true, eqb-false}
use Rattle.std.proofs.lemmas.Grind.{flat_map-append}
use Rattle.std.proofs.lemmas.List.{map-append}
use Rattle.std.proofs.lemmas.List.Elements.{filter-append}
use Rattle.spec_run.specs.Act.{Deed, Tries, Shuts, Fetches, Idles, Works, Looks, AsksRoot, Reads}
use Rattle.spec_run.specs.OwnedRun.{deeds_in}
use Rattle.spec_run.specs.InTurns.{OneTurn, Turned, Draws, turn_step, turn_sequence, turns_sequence, sequence, conductor_steps}
use Rattle.spec_run.specs.CoreEvents.{Made, deeds_made}
use Rattle.run_laws.proofs.GoesLemmas.{deeds_by, by-append, by_own, by_other}
use Rattle.zq_world.specs.Turning.{times}
use Rattle.zq_world.proofs.OrderLemmas.{times_it, times_not, each_once, no_others}

never_one : {A : Type 0} (w v : ℕ) (ws : List ℕ) → v ≡ w → times w (v ∷ ws) ≡ 0 → A
never_one w v ws same none = let it = times_it w v ws same in absurd (omega (arith, it, none))

module _ {N S : Type 0} where
  -- a deed of these is no look of its own
  abbrev pub is_told : Deed N S → Bool
  is_told (Tries t) = true
  is_told (Shuts acts) = true
  is_told (Fetches slot acts) = true
  is_told (Idles m) = false
  is_told (Works acts) = true
  is_told (Looks m) = false
  is_told (AsksRoot acts) = true
  is_told (Reads now) = true

  -- the deeds of a worker but for looks, and of the turns of so many actors
  abbrev pub made_of : ℕ → List (Deed N S) → List (Made N S)
  made_of w ds = map (λ d. record { worker = w; deed = d }) (filter is_told ds)

  abbrev pub steps_made : (ℕ → List (Deed N S)) → List ℕ → List (Made N S)
  steps_made step ws = flat_map (λ w. made_of w (step w)) ws

  abbrev pub turn_made : (actors : ℕ) → List ℕ → OneTurn N S → List (Made N S)
  turn_made n order t = made_of (n + 1 + 1) t.begins ++ (steps_made (λ w. turn_step w t) order ++ record { worker = n + 1 + 1; deed = Reads t.reading } ∷ [])

  abbrev pub turns_made : (actors : ℕ) → List (List ℕ) → List (OneTurn N S) → List (Made N S)
  turns_made n [] ts = []
  turns_made n (order ∷ orders) [] = []
  turns_made n (order ∷ orders) (t ∷ ts) = turn_made n order t ++ turns_made n orders ts

  abbrev pub chosen_made : (actors : ℕ) → List (List ℕ) → Turned N S → List (Made N S)
  chosen_made n orders t = record { worker = n + 1 + 1; deed = Reads t.first } ∷ turns_made n orders t.turns

  -- ---- in their order
  made_on : (xs ys : List (Made N S)) → deeds_made (xs ++ ys) ≡ deeds_made xs ++ deeds_made ys
  made_on xs ys = map-append (λ (m : Made N S). m.deed) xs ys

  pub one_made : (w : ℕ) (ds : List (Deed N S)) → deeds_made (made_of w ds) ≡ filter is_told ds
  one_made w ds = plain (filter is_told ds)
    where
      plain : (es : List (Deed N S)) → deeds_made (map (λ d. record { worker = w; deed = d }) es) ≡ es
      plain [] = refl
      plain (e ∷ es) = ap (λ l. e ∷ l) (plain es)

  steps_deeds : (step : ℕ → List (Deed N S)) (ws : List ℕ) → deeds_made (steps_made step ws) ≡ filter is_told (flat_map step ws)
  steps_deeds step [] = refl
  steps_deeds step (w ∷ ws) =
      made_on (made_of w (step w)) (steps_made step ws)
      ∙ ap (λ l. l ++ deeds_made (steps_made step ws)) (one_made w (step w))
      ∙ ap (λ l. filter is_told (step w) ++ l) (steps_deeds step ws)
      ∙ sym (filter-append is_told (step w) (flat_map step ws))

  pub turn_deeds : (n : ℕ) (order : List ℕ) (t : OneTurn N S) → deeds_made (turn_made n order t) ≡ filter is_told (turn_sequence order t)
  turn_deeds n order t =
      let step : ℕ → List (Deed N S) = λ w. turn_step w t in
      let steps = steps_made step order in
      let last : List (Made N S) = record { worker = n + 1 + 1; deed = Reads t.reading } ∷ [] in
      made_on (made_of (n + 1 + 1) t.begins) (steps ++ last)
      ∙ ap (λ l. l ++ deeds_made (steps ++ last)) (one_made (n + 1 + 1) t.begins)
      ∙ ap (λ l. filter is_told t.begins ++ l) (made_on steps last ∙ ap (λ l. l ++ Reads t.reading ∷ []) (steps_deeds step order) ∙ sym (filter-append is_told (flat_map step order) (Reads t.reading ∷ [])))
      ∙ sym (filter-append is_told t.begins (flat_map step order ++ Reads t.reading ∷ []))

  pub turns_deeds : (n : ℕ) (orders : List (List ℕ)) (ts : List (OneTurn N S)) → deeds_made (turns_made n orders ts) ≡ filter is_told (turns_sequence orders ts)
  turns_deeds n [] ts = refl
  turns_deeds n (order ∷ orders) [] = refl
  turns_deeds n (order ∷ orders) (t ∷ ts) =
      made_on (turn_made n order t) (turns_made n orders ts)
      ∙ ap (λ l. l ++ deeds_made (turns_made n orders ts)) (turn_deeds n order t)
      ∙ ap (λ l. filter is_told (turn_sequence order t) ++ l) (turns_deeds n orders ts)
      ∙ sym (filter-append is_told (turn_sequence order t) (turns_sequence orders ts))

  pub chosen_deeds : (n : ℕ) (orders : List (List ℕ)) (t : Turned N S) → deeds_made (chosen_made n orders t) ≡ filter is_told (sequence orders t)
  chosen_deeds n orders t =
      ap (λ l. Reads t.first ∷ l) (turns_deeds n orders t.turns ∙ sym (append-nil (filter is_told (turns_sequence orders t.turns))) ∙ sym (filter-append is_told (turns_sequence orders t.turns) (Looks t.last ∷ [])))

  -- ---- worker by worker
  all_mine : (w : ℕ) (ds : List (Deed N S)) → deeds_by w (made_of w ds) ≡ filter is_told ds
  all_mine w ds = plain (filter is_told ds)
    where
      plain : (es : List (Deed N S)) → deeds_by w (map (λ d. record { worker = w; deed = d }) es) ≡ es
      plain [] = refl
      plain (e ∷ es) =
          by-append w (record { worker = w; deed = e } ∷ []) (map (λ d. record { worker = w; deed = d }) es)
          ∙ ap (λ l. l ++ deeds_by w (map (λ d. record { worker = w; deed = d }) es)) (by_own w w e refl)
          ∙ ap (λ l. e ∷ l) (plain es)

  none_mine : (w v : ℕ) (ds : List (Deed N S)) → v ≢ w → deeds_by w (made_of v ds) ≡ []
  none_mine w v ds other = plain (filter is_told ds)
    where
      plain : (es : List (Deed N S)) → deeds_by w (map (λ d. record { worker = v; deed = d }) es) ≡ []
      plain [] = refl
      plain (e ∷ es) =
          by-append w (record { worker = v; deed = e } ∷ []) (map (λ d. record { worker = v; deed = d }) es)
          ∙ ap (λ l. l ++ deeds_by w (map (λ d. record { worker = v; deed = d }) es)) (by_other w v e other)
          ∙ plain es

  steps_none : (w : ℕ) (step : ℕ → List (Deed N S)) (ws : List ℕ) → times w ws ≡ 0 → deeds_by w (steps_made step ws) ≡ []
  steps_none w step [] none = refl
  steps_none w step (v ∷ ws) none = by-append w (made_of v (step v)) (steps_made step ws) ∙ by (v == w) refl (steps_none w step ws)
    where
      by : (b : Bool) → (v == w) ≡ b → (times w ws ≡ 0 → deeds_by w (steps_made step ws) ≡ []) → deeds_by w (made_of v (step v)) ++ deeds_by w (steps_made step ws) ≡ []
      by true e rest = never_one w v ws (eqb-true v w e) none
      by false e rest =
          ap (λ l. l ++ deeds_by w (steps_made step ws)) (none_mine w v (step v) (eqb-false v w e))
          ∙ rest (sym (times_not w v ws (eqb-false v w e)) ∙ none)

  steps_once : (w : ℕ) (step : ℕ → List (Deed N S)) (ws : List ℕ) → times w ws ≡ 1 → deeds_by w (steps_made step ws) ≡ filter is_told (step w)
  steps_once w step [] once = absurd (no once)
    where
      no : ◌≡◌ {A = ℕ} 0 1 → ⊥
      no e = omega (arith, e)
  steps_once w step (v ∷ ws) once = by-append w (made_of v (step v)) (steps_made step ws) ∙ by (v == w) refl (steps_once w step ws)
    where
      by : (b : Bool) → (v == w) ≡ b → (times w ws ≡ 1 → deeds_by w (steps_made step ws) ≡ filter is_told (step w)) → deeds_by w (made_of v (step v)) ++ deeds_by w (steps_made step ws) ≡ filter is_told (step w)
      by true e rest =
          let same : v ≡ w = eqb-true v w e in
          let it = times_it w v ws same in
          ap (λ l. deeds_by w (made_of v (step v)) ++ l) (steps_none w step ws (omega (arith, it, once)))
          ∙ append-nil (deeds_by w (made_of v (step v)))
          ∙ ap (λ (u : ℕ). deeds_by w (made_of u (step u))) same ∙ all_mine w (step w)
      by false e rest =
          ap (λ l. l ++ deeds_by w (steps_made step ws)) (none_mine w v (step v) (eqb-false v w e))
          ∙ rest (sym (times_not w v ws (eqb-false v w e)) ∙ once)

  turn_by : (n w : ℕ) (order : List ℕ) (t : OneTurn N S)
      → deeds_by w (turn_made n order t) ≡ deeds_by w (made_of (n + 1 + 1) t.begins) ++ (deeds_by w (steps_made (λ v. turn_step v t) order) ++ deeds_by w (record { worker = n + 1 + 1; deed = Reads t.reading } ∷ []))
  turn_by n w order t =
      by-append w (made_of (n + 1 + 1) t.begins) (steps_made (λ v. turn_step v t) order ++ record { worker = n + 1 + 1; deed = Reads t.reading } ∷ [])
      ∙ ap (λ l. deeds_by w (made_of (n + 1 + 1) t.begins) ++ l) (by-append w (steps_made (λ v. turn_step v t) order) (record { worker = n + 1 + 1; deed = Reads t.reading } ∷ []))

  turns_by : (n w seed x : ℕ) (orders : List (List ℕ)) (ts : List (OneTurn N S)) → Draws seed (range_with_len 0 (n + 1 + 1)) x ts orders → w < n + 1 + 1
      → deeds_by w (turns_made n orders ts) ≡ filter is_told (deeds_in (map (turn_step w) ts))
  turns_by n w seed x [] [] drawn lt = refl
  turns_by n w seed x [] (t ∷ ts) drawn lt = absurd drawn
  turns_by n w seed x (order ∷ orders) [] drawn lt = refl
  turns_by n w seed x (order ∷ orders) (t ∷ ts) drawn lt =
      let other : n + 1 + 1 ≢ w = λ e. omega (arith, e, lt) in
      by-append w (turn_made n order t) (turns_made n orders ts)
      ∙ ap (λ l. l ++ deeds_by w (turns_made n orders ts)) (turn_by n w order t
      ∙ ap (λ l. l ++ (deeds_by w (steps_made (λ v. turn_step v t) order) ++ deeds_by w (record { worker = n + 1 + 1; deed = Reads t.reading } ∷ []))) (none_mine w (n + 1 + 1) t.begins other)
      ∙ ap (λ l. deeds_by w (steps_made (λ v. turn_step v t) order) ++ l) (by_other w (n + 1 + 1) (Reads t.reading) other)
      ∙ append-nil (deeds_by w (steps_made (λ v. turn_step v t) order))
      ∙ steps_once w (λ v. turn_step v t) order (each_once w (n + 1 + 1) seed x order drawn.0 drawn.1 lt))
      ∙ ap (λ l. filter is_told (turn_step w t) ++ l) (turns_by n w seed drawn.0 orders ts drawn.2 lt)
      ∙ sym (filter-append is_told (turn_step w t) (deeds_in (map (turn_step w) ts)))

  -- a worker's deeds, and the conductor's
  pub worker_deeds : (n w seed : ℕ) (orders : List (List ℕ)) (t : Turned N S) → Draws seed (range_with_len 0 (n + 1 + 1)) seed t.turns orders → w < n + 1 + 1
      → deeds_by w (chosen_made n orders t) ≡ filter is_told (deeds_in (map (turn_step w) t.turns))
  worker_deeds n w seed orders t drawn lt =
      by-append w (record { worker = n + 1 + 1; deed = Reads t.first } ∷ []) (turns_made n orders t.turns)
      ∙ ap (λ l. l ++ deeds_by w (turns_made n orders t.turns)) (by_other w (n + 1 + 1) (Reads t.first) (λ e. omega (arith, e, lt)))
      ∙ turns_by n w seed seed orders t.turns drawn lt

  conducted : (n w seed x : ℕ) (orders : List (List ℕ)) (ts : List (OneTurn N S)) → w ≡ n + 1 + 1 → Draws seed (range_with_len 0 (n + 1 + 1)) x ts orders
      → deeds_by w (turns_made n orders ts) ≡ filter is_told (deeds_in (map (λ turn. turn.begins ++ Reads turn.reading ∷ []) ts))
  conducted n w seed x [] [] same drawn = refl
  conducted n w seed x [] (t ∷ ts) same drawn = absurd drawn
  conducted n w seed x (order ∷ orders) [] same drawn = refl
  conducted n w seed x (order ∷ orders) (t ∷ ts) same drawn =
      by-append w (turn_made n order t) (turns_made n orders ts)
      ∙ ap (λ l. l ++ deeds_by w (turns_made n orders ts)) (turn_by n w order t
      ∙ ap (λ (u : ℕ). deeds_by w (made_of u t.begins) ++ (deeds_by w (steps_made (λ v. turn_step v t) order) ++ deeds_by w (record { worker = n + 1 + 1; deed = Reads t.reading } ∷ []))) (sym same)
      ∙ ap (λ l. l ++ (deeds_by w (steps_made (λ v. turn_step v t) order) ++ deeds_by w (record { worker = n + 1 + 1; deed = Reads t.reading } ∷ []))) (all_mine w t.begins)
      ∙ ap (λ l. filter is_told t.begins ++ (l ++ deeds_by w (record { worker = n + 1 + 1; deed = Reads t.reading } ∷ [])))
      (steps_none w (λ v. turn_step v t) order (no_others w (n + 1 + 1) seed x order drawn.0 drawn.1 (omega (arith, same))))
      ∙ ap (λ l. filter is_told t.begins ++ l) (by_own w (n + 1 + 1) (Reads t.reading) (sym same))
      ∙ sym (filter-append is_told t.begins (Reads t.reading ∷ [])))
      ∙ ap (λ l. filter is_told (t.begins ++ Reads t.reading ∷ []) ++ l) (conducted n w seed drawn.0 orders ts same drawn.2)
      ∙ sym (filter-append is_told (t.begins ++ Reads t.reading ∷ []) (deeds_in (map (λ turn. turn.begins ++ Reads turn.reading ∷ []) ts)))

  deeds_on : (xs ys : List (List (Deed N S))) → deeds_in (xs ++ ys) ≡ deeds_in xs ++ deeds_in ys
  deeds_on xs ys = flat_map-append (λ (step : List (Deed N S)). step) xs ys

  pub conductor_deeds : (n w seed : ℕ) (orders : List (List ℕ)) (t : Turned N S) → w ≡ n + 1 + 1 → Draws seed (range_with_len 0 (n + 1 + 1)) seed t.turns orders
      → deeds_by w (chosen_made n orders t) ≡ filter is_told (deeds_in (conductor_steps t))
  conductor_deeds n w seed orders t same drawn =
      let steps = map (λ turn. turn.begins ++ Reads turn.reading ∷ []) t.turns in
      by-append w (record { worker = n + 1 + 1; deed = Reads t.first } ∷ []) (turns_made n orders t.turns)
      ∙ ap (λ l. l ++ deeds_by w (turns_made n orders t.turns)) (by_own w (n + 1 + 1) (Reads t.first) (sym same))
      ∙ ap (λ l. Reads t.first ∷ l) (conducted n w seed seed orders t.turns same drawn
      ∙ sym (append-nil (filter is_told (deeds_in steps))) ∙ sym (filter-append is_told (deeds_in steps) (Looks t.last ∷ [])) ∙ sym (ap (filter is_told) (deeds_on steps ((Looks t.last ∷ []) ∷ []))))
