-- Each worker's items are those of the order by its number.
use Rattle.std.proofs.Common.{◌≡◌, ◌≢◌, ◌≤◌, ◌<◌, ◌+◌, ℕ, zero, suc, List, [], ◌∷◌, ◌++◌, Bool, true, false, length, map, refl, sym, ap, subst, ◌∙◌, arith, append-nil, append_assoc, length-append}
use Rattle.std.specs.Prelude.{◌==◌, flat_map, nat_lt}
use Rattle.std.specs.List.{list_all, range_with_len}
use Rattle.std.proofs.lemmas.Bool.{eq-eqb, ne_eqb, eqb-true, eqb-false, ltb-true, ltb-false, lt-ltb}
use Rattle.std.proofs.lemmas.List.{length-map}
use Rattle.std.proofs.lemmas.List.FromFn.{length-range_with_len}
use Rattle.std.proofs.lemmas.List.Elements.{filter-append, filter_map-append}
use Rattle.spec_control.specs.declared.entry.Item.{Item}
use Rattle.spec_control.specs.Held.{caller_of}
use Rattle.spec_control.specs.Control.{begun}
use Rattle.spec_control.specs.Moments.{Moment, moments_by, moments_from}
use Rattle.spec_run.specs.Act.{Act, Step, Said, moment_of, moments_in, Deed, Looks, Reads, all_acts}
use Rattle.spec_run.specs.Script.{Script}
use Rattle.spec_run.specs.OpenSocket.{OpenSock}
use Rattle.spec_run.specs.Standing.{ActorStanding, standing_before}
use Rattle.spec_run.specs.OwnedRun.{deeds_in, AreTold}
use Rattle.spec_run.specs.InTurns.{AllStep, OneTurn, TurnsGo, Draws, turn_step, turn_sequence, turns_sequence, conductor_steps}
use Rattle.zq_world.specs.Piece.{Piece, AreActsBy, acts_in}
use Rattle.zq_world.specs.Stepping.{standing_of}
use Rattle.zq_world.specs.declared.actor.Actor.{Actor}
use Rattle.zq_world.specs.Turning.{times, standings, TurnBy, TurnsBy, RunsSo}
use Rattle.zq_world.specs.GoesInTurns.{run_of}
use Rattle.zq_world.proofs.OrderLemmas.{times_it, times_not, each_once}
use Rattle.zq_world.proofs.StepLemmas.{all_acts-append}
use Rattle.zq_world.proofs.PieceLemmas.{runs_acts}
use Rattle.zq_world.proofs.AskedLemmas.{and_both, all-append, past_steps, as_many, as_scripted, items_of, items_of-append, turn_items, items_from, whole_items}

module _ {N S : Type 0} where
  -- the moments of a caller among acts
  abbrev pub mine : ℕ → List (Act N S) → List (Moment N S)
  mine k acts = moments_by k (moments_in acts)

  pub mine-append : (k : ℕ) (xs ys : List (Act N S)) → mine k (xs ++ ys) ≡ mine k xs ++ mine k ys
  mine-append k xs ys = ap (moments_by k) (filter_map-append moment_of xs ys) ∙ filter-append (λ (m : Moment N S). caller_of m.item == k) (moments_in xs) (moments_in ys)

  pub mine_all : (k : ℕ) (acts : List (Act N S)) → AreActsBy k acts → mine k acts ≡ moments_in acts
  mine_all k [] by = refl
  mine_all k (Step step ∷ acts) by = mine_all k acts by
  mine_all k (Said m ∷ acts) by = rw (eq-eqb (caller_of m.item) k by.0) (ap (λ l. m ∷ l) (mine_all k acts by.1))

  pub mine_none : (k w : ℕ) (acts : List (Act N S)) → AreActsBy w acts → w ≢ k → mine k acts ≡ []
  mine_none k w [] by ne = refl
  mine_none k w (Step step ∷ acts) by ne = mine_none k w acts by ne
  mine_none k w (Said m ∷ acts) by ne = rw (ne_eqb (caller_of m.item) k (λ e. ne (sym by.0 ∙ e))) (mine_none k w acts by.1 ne)

  -- ---- a turn's steps

  step_none : (n k v : ℕ) (olds news : List ActorStanding) (t : OneTurn N S) → n ≡ length olds → AllStep 1 olds t.steps news → TurnBy (n + 2) t → v ≢ k → mine k (all_acts (turn_step v t)) ≡ []
  step_none n k v olds news t same all by ne = one (nat_lt v (n + 2)) refl
    where
      one : (c : Bool) → nat_lt v (n + 2) ≡ c → mine k (all_acts (turn_step v t)) ≡ []
      one true f = mine_none k v (all_acts (turn_step v t)) (by.stepped v (ltb-true v (n + 2) f)) ne
      one false f = ap (λ ds. mine k (all_acts ds)) (past_steps olds news t.steps v all (let g = ltb-false v (n + 2) f in omega (arith, g, same)))

  more_steps : (k v : ℕ) (t : OneTurn N S) (order : List ℕ)
      → mine k (all_acts (flat_map (λ w. turn_step w t) (v ∷ order))) ≡ mine k (all_acts (turn_step v t)) ++ mine k (all_acts (flat_map (λ w. turn_step w t) order))
  more_steps k v t order = ap (mine k) (all_acts-append (turn_step v t) (flat_map (λ w. turn_step w t) order)) ∙ mine-append k (all_acts (turn_step v t)) (all_acts (flat_map (λ w. turn_step w t) order))

  steps_none : (n k : ℕ) (olds news : List ActorStanding) (t : OneTurn N S) (order : List ℕ) → n ≡ length olds → AllStep 1 olds t.steps news → TurnBy (n + 2) t → times k order ≡ 0
      → mine k (all_acts (flat_map (λ w. turn_step w t) order)) ≡ []
  steps_none n k olds news t [] same all by none = refl
  steps_none n k olds news t (v ∷ order) same all by none = one (v == k) refl (λ e. steps_none n k olds news t order same all by e)
    where
      one : (b : Bool) → (v == k) ≡ b → (times k order ≡ 0 → mine k (all_acts (flat_map (λ w. turn_step w t) order)) ≡ []) → mine k (all_acts (flat_map (λ w. turn_step w t) (v ∷ order))) ≡ []
      one true e rest = elim (some (times_it k v order (eqb-true v k e))) [ ]
        where
          some : times k (v ∷ order) ≡ times k order + 1 → ⊥
          some h = omega (arith, h, none)
      one false e rest =
          let h = times_not k v order (eqb-false v k e) in
          more_steps k v t order ∙ ap (λ l. l ++ mine k (all_acts (flat_map (λ w. turn_step w t) order))) (step_none n k v olds news t same all by (eqb-false v k e)) ∙ rest (omega (arith, h, none))

  steps_once : (n k : ℕ) (olds news : List ActorStanding) (t : OneTurn N S) (order : List ℕ) → n ≡ length olds → AllStep 1 olds t.steps news → TurnBy (n + 2) t → k < n + 2 → times k order ≡ 1
      → mine k (all_acts (flat_map (λ w. turn_step w t) order)) ≡ moments_in (all_acts (turn_step k t))
  steps_once n k olds news t [] same all by lt once = elim (never once) [ ]
    where
      never : ◌≡◌ {A = ℕ} 0 1 → ⊥
      never e = omega (arith, e)
  steps_once n k olds news t (v ∷ order) same all by lt once = one (v == k) refl (λ e. steps_once n k olds news t order same all by lt e)
    where
      one : (b : Bool) → (v == k) ≡ b → (times k order ≡ 1 → mine k (all_acts (flat_map (λ w. turn_step w t) order)) ≡ moments_in (all_acts (turn_step k t)))
          → mine k (all_acts (flat_map (λ w. turn_step w t) (v ∷ order))) ≡ moments_in (all_acts (turn_step k t))
      one true e rest =
          let is : v ≡ k = eqb-true v k e in
          let h = times_it k v order is in
          more_steps k v t order
          ∙ ap (λ l. mine k (all_acts (turn_step v t)) ++ l) (steps_none n k olds news t order same all by (omega (arith, h, once)))
          ∙ append-nil (mine k (all_acts (turn_step v t)))
          ∙ ap (λ u. mine k (all_acts (turn_step u t))) is
          ∙ mine_all k (all_acts (turn_step k t)) (by.stepped k lt)
      one false e rest =
          let h = times_not k v order (eqb-false v k e) in
          more_steps k v t order ∙ ap (λ l. l ++ mine k (all_acts (flat_map (λ w. turn_step w t) order))) (step_none n k v olds news t same all by (eqb-false v k e)) ∙ rest (omega (arith, h, once))

  steps_other : (n k : ℕ) (olds news : List ActorStanding) (t : OneTurn N S) (order : List ℕ) → n ≡ length olds → AllStep 1 olds t.steps news → TurnBy (n + 2) t → n + 2 ≤ k
      → mine k (all_acts (flat_map (λ w. turn_step w t) order)) ≡ []
  steps_other n k olds news t [] same all by le = refl
  steps_other n k olds news t (v ∷ order) same all by le =
      more_steps k v t order ∙ ap (λ l. l ++ mine k (all_acts (flat_map (λ w. turn_step w t) order))) (one (nat_lt v (n + 2)) refl) ∙ steps_other n k olds news t order same all by le
    where
      one : (c : Bool) → nat_lt v (n + 2) ≡ c → mine k (all_acts (turn_step v t)) ≡ []
      one true f = mine_none k v (all_acts (turn_step v t)) (by.stepped v (ltb-true v (n + 2) f)) (let g = ltb-true v (n + 2) f in λ e. omega (arith, g, e, le))
      one false f = ap (λ ds. mine k (all_acts ds)) (past_steps olds news t.steps v all (let g = ltb-false v (n + 2) f in omega (arith, g, same)))

  -- ---- turns

  turn_mine : (k : ℕ) (order : List ℕ) (t : OneTurn N S) (more : List (Deed N S))
      → mine k (all_acts (turn_sequence order t ++ more)) ≡ mine k (all_acts t.begins) ++ (mine k (all_acts (flat_map (λ w. turn_step w t) order)) ++ mine k (all_acts more))
  turn_mine k order t more =
      ap (mine k) (all_acts-append (turn_sequence order t) more
      ∙ ap (λ l. l ++ all_acts more) (all_acts-append t.begins (flat_map (λ w. turn_step w t) order ++ Reads t.reading ∷ [])
      ∙ ap (λ l. all_acts t.begins ++ l) (all_acts-append (flat_map (λ w. turn_step w t) order) (Reads t.reading ∷ []) ∙ append-nil (all_acts (flat_map (λ w. turn_step w t) order)))))
      ∙ mine-append k (all_acts t.begins ++ all_acts (flat_map (λ w. turn_step w t) order)) (all_acts more)
      ∙ ap (λ l. l ++ mine k (all_acts more)) (mine-append k (all_acts t.begins) (all_acts (flat_map (λ w. turn_step w t) order)))
      ∙ append_assoc (mine k (all_acts t.begins)) (mine k (all_acts (flat_map (λ w. turn_step w t) order))) (mine k (all_acts more))

  moments-append : (ds es : List (Deed N S)) → moments_in (all_acts (ds ++ es)) ≡ moments_in (all_acts ds) ++ moments_in (all_acts es)
  moments-append ds es = ap moments_in (all_acts-append ds es) ∙ filter_map-append moment_of (all_acts ds) (all_acts es)

  -- what a worker says in turns; behind them the conductor looks once more
  pub told_turns : (n k seed x : ℕ) (olds news : List ActorStanding) (ts : List (OneTurn N S)) (os : List (List ℕ)) (last : List (Deed N S)) → n ≡ length olds → TurnsGo 1 olds ts news → TurnsBy (n + 2) ts
      → Draws seed (range_with_len 0 (n + 2)) x ts os → k < n + 2 → AreActsBy (n + 2) (all_acts last)
      → moments_in (all_acts (deeds_in (map (turn_step k) ts))) ≡ mine k (all_acts (turns_sequence os ts ++ last))
  told_turns n k seed x olds news [] [] last same go by draws lt end = sym (mine_none k (n + 2) (all_acts last) end (λ e. omega (arith, e, lt)))
  told_turns n k seed x olds news [] (o ∷ os) last same go by draws lt end = sym (mine_none k (n + 2) (all_acts last) end (λ e. omega (arith, e, lt)))
  told_turns n k seed x olds news (t ∷ ts) [] last same go by draws lt end = elim draws [ ]
  told_turns n k seed x olds news (t ∷ ts) (o ∷ os) last same go by draws lt end =
      moments-append (turn_step k t) (deeds_in (map (turn_step k) ts))
      ∙ ap (λ l. moments_in (all_acts (turn_step k t)) ++ l) (told_turns n k seed draws.0 go.1.0 news ts os last (same ∙ sym (as_many olds go.1.0 t.steps go.1.1)) go.1.2 by.1 draws.2 lt end)
      ∙ sym (ap (λ ds. mine k (all_acts ds)) (append_assoc (turn_sequence o t) (turns_sequence os ts) last) ∙ turn_mine k o t (turns_sequence os ts ++ last)
      ∙ ap (λ l. l ++ (mine k (all_acts (flat_map (λ w. turn_step w t) o)) ++ mine k (all_acts (turns_sequence os ts ++ last)))) (mine_none k (n + 2) (all_acts t.begins) by.0.conducted (λ e. omega (arith, e, lt)))
      ∙ ap (λ l. l ++ mine k (all_acts (turns_sequence os ts ++ last))) (steps_once n k olds go.1.0 t o same go.1.1 by.0 lt (each_once k (n + 2) seed x o draws.0 draws.1 lt)))

  -- what the conductor says
  pub told_conductor : (n : ℕ) (olds news : List ActorStanding) (ts : List (OneTurn N S)) (os : List (List ℕ)) (seed x : ℕ) (m : Moment N S) → n ≡ length olds → TurnsGo 1 olds ts news → TurnsBy (n + 2) ts
      → Draws seed (range_with_len 0 (n + 2)) x ts os → AreActsBy (n + 2) (Said m ∷ [])
      → moments_in (all_acts (deeds_in (map (λ turn. turn.begins ++ Reads turn.reading ∷ []) ts ++ (Looks m ∷ []) ∷ []))) ≡ mine (n + 2) (all_acts (turns_sequence os ts ++ Looks m ∷ []))
  told_conductor n olds news [] [] seed x m same go by draws end = sym (mine_all (n + 2) (Said m ∷ []) end)
  told_conductor n olds news [] (o ∷ os) seed x m same go by draws end = sym (mine_all (n + 2) (Said m ∷ []) end)
  told_conductor n olds news (t ∷ ts) [] seed x m same go by draws end = elim draws [ ]
  told_conductor n olds news (t ∷ ts) (o ∷ os) seed x m same go by draws end =
      moments-append (t.begins ++ Reads t.reading ∷ []) (deeds_in (map (λ turn. turn.begins ++ Reads turn.reading ∷ []) ts ++ (Looks m ∷ []) ∷ []))
      ∙ ap (λ l. l ++ moments_in (all_acts (deeds_in (map (λ turn. turn.begins ++ Reads turn.reading ∷ []) ts ++ (Looks m ∷ []) ∷ [])))) (moments-append t.begins (Reads t.reading ∷ []) ∙ append-nil (moments_in (all_acts t.begins)))
      ∙ ap (λ l. moments_in (all_acts t.begins) ++ l) (told_conductor n go.1.0 news ts os seed draws.0 m (same ∙ sym (as_many olds go.1.0 t.steps go.1.1)) go.1.2 by.1 draws.2 end)
      ∙ sym (ap (λ ds. mine (n + 2) (all_acts ds)) (append_assoc (turn_sequence o t) (turns_sequence os ts) (Looks m ∷ [])) ∙ turn_mine (n + 2) o t (turns_sequence os ts ++ Looks m ∷ [])
      ∙ ap (λ l. l ++ (mine (n + 2) (all_acts (flat_map (λ w. turn_step w t) o)) ++ mine (n + 2) (all_acts (turns_sequence os ts ++ Looks m ∷ [])))) (mine_all (n + 2) (all_acts t.begins) by.0.conducted)
      ∙ ap (λ l. moments_in (all_acts t.begins) ++ (l ++ mine (n + 2) (all_acts (turns_sequence os ts ++ Looks m ∷ [])))) (steps_other n (n + 2) olds go.1.0 t o same go.1.1 by.0 (omega arith)))

  -- ---- all workers

  pub all_told : (f : ℕ → List (List (Deed N S))) (last : List (List (Deed N S))) (moments : List (Moment N S)) (m k : ℕ)
      → ((i w : ℕ) → w ≡ k + i → i < m → moments_in (all_acts (deeds_in (f w))) ≡ moments_by w moments) → ((w : ℕ) → w ≡ k + m → moments_in (all_acts (deeds_in last)) ≡ moments_by w moments)
      → AreTold k moments (map f (range_with_len k m) ++ last ∷ [])
  all_told f last moments zero k each end = (end k (omega arith), tt)
  all_told f last moments (suc m) k each end = (
    each 0 k (omega arith) (omega arith),
    all_told f last moments m (k + 1) (λ i w e lt. each (suc i) w (omega (arith, e)) (omega (arith, lt))) (λ w e. end w (omega (arith, e))),
  )

  -- ---- nobody else

  abbrev pub AreOf : ℕ → List (Item N S) → Type 0
  AreOf m items = list_all (λ item. nat_lt (caller_of item) m) items ≡ true

  pub of_acts : (m w : ℕ) (acts : List (Act N S)) → AreActsBy w acts → w < m → AreOf m (items_of acts)
  of_acts m w [] by lt = refl
  of_acts m w (Step step ∷ acts) by lt = of_acts m w acts by lt
  of_acts m w (Said x ∷ acts) by lt =
      and_both (nat_lt (caller_of x.item) m) (list_all (λ item. nat_lt (caller_of item) m) (items_of acts)) (lt-ltb (caller_of x.item) m (let e = by.0 in omega (arith, e, lt))) (of_acts m w acts by.1 lt)

  of_steps : (n m : ℕ) (olds news : List ActorStanding) (t : OneTurn N S) (order : List ℕ) → n ≡ length olds → n + 2 < m → AllStep 1 olds t.steps news → TurnBy (n + 2) t
      → AreOf m (items_of (all_acts (flat_map (λ w. turn_step w t) order)))
  of_steps n m olds news t [] same lt all by = refl
  of_steps n m olds news t (w ∷ order) same lt all by =
      subst (AreOf m) (sym (ap items_of (all_acts-append (turn_step w t) (flat_map (λ v. turn_step v t) order)) ∙ items_of-append (all_acts (turn_step w t)) (all_acts (flat_map (λ v. turn_step v t) order))))
      (all-append (λ item. nat_lt (caller_of item) m) (items_of (all_acts (turn_step w t))) (items_of (all_acts (flat_map (λ v. turn_step v t) order)))
      (one (nat_lt w (n + 2)) refl) (of_steps n m olds news t order same lt all by))
    where
      one : (c : Bool) → nat_lt w (n + 2) ≡ c → AreOf m (items_of (all_acts (turn_step w t)))
      one true f = of_acts m w (all_acts (turn_step w t)) (by.stepped w (ltb-true w (n + 2) f)) (let g = ltb-true w (n + 2) f in omega (arith, g, lt))
      one false f = ap (λ ds. list_all (λ item. nat_lt (caller_of item) m) (items_of (all_acts ds))) (past_steps olds news t.steps w all (let g = ltb-false w (n + 2) f in omega (arith, g, same)))

  pub of_turns : (n m : ℕ) (olds news : List ActorStanding) (ts : List (OneTurn N S)) (os : List (List ℕ)) (items : List (Item N S)) → n ≡ length olds → n + 2 < m → TurnsGo 1 olds ts news → TurnsBy (n + 2) ts
      → AreOf m items → AreOf m (items_of (all_acts (turns_sequence os ts)) ++ items)
  of_turns n m olds news ts [] items same lt go by rest = rest
  of_turns n m olds news [] (o ∷ os) items same lt go by rest = rest
  of_turns n m olds news (t ∷ ts) (o ∷ os) items same lt go by rest =
      subst (AreOf m) (sym (turn_items o t (turns_sequence os ts) items))
      (all-append (λ item. nat_lt (caller_of item) m) (items_of (all_acts t.begins)) (items_of (all_acts (flat_map (λ w. turn_step w t) o)) ++ (items_of (all_acts (turns_sequence os ts)) ++ items))
      (of_acts m (n + 2) (all_acts t.begins) by.0.conducted lt)
      (all-append (λ item. nat_lt (caller_of item) m) (items_of (all_acts (flat_map (λ w. turn_step w t) o))) (items_of (all_acts (turns_sequence os ts)) ++ items)
      (of_steps n m olds go.1.0 t o same lt go.1.1 by.0)
      (of_turns n m go.1.0 news ts os items (same ∙ sym (as_many olds go.1.0 t.steps go.1.1)) lt go.1.2 by.1 rest)))

module _ {O N S : Type 0} (as_open : O → OpenSock) where
  pub are_told : (script : Script) (seed limit : ℕ) (done : Bool) (old new : List (Actor O)) (pieces : List (Piece N S)) (order : List (Item N S)) → standings as_open old ≡ map standing_before script
      → (runs : RunsSo as_open seed limit done old new [] pieces) → moments_in (acts_in pieces) ≡ moments_from (begun 1) order → AreTold 0 (moments_from (begun 1) order) (run_of script runs.turned order).workers
  are_told script seed limit done old new pieces order same runs one =
      subst (λ (ms : List (Moment N S)). AreTold 0 ms (run_of script runs.turned order).workers) (sym (ap moments_in (runs_acts as_open seed limit done old new pieces runs)) ∙ one)
      (all_told (λ w. map (turn_step w) runs.turned.turns) (conductor_steps runs.turned) (moments_in (all_acts (turns_sequence runs.orders runs.turned.turns ++ Looks runs.turned.last ∷ []))) (length script + 1 + 1) 0
      (λ i w e lt. told_turns (length script) w seed seed (standings as_open old) (standings as_open new) runs.turned.turns runs.orders (Looks runs.turned.last ∷ []) many runs.go by drawn (omega (arith, e, lt)) last_by)
      (λ w e. told_conductor (length script) (standings as_open old) (standings as_open new) runs.turned.turns runs.orders seed seed runs.turned.last many runs.go by drawn last_by
      ∙ ap (λ k. moments_by k (moments_in (all_acts (turns_sequence runs.orders runs.turned.turns ++ Looks runs.turned.last ∷ [])))) (two w e)))
    where
      count : length old ≡ length script
      count = as_scripted as_open script old same

      many : length script ≡ length (standings as_open old)
      many = sym count ∙ sym (length-map old (standing_of as_open))

      by : TurnsBy (length script + 2) runs.turned.turns
      by = subst (λ k. TurnsBy (k + 2) runs.turned.turns) count runs.by

      last_by : AreActsBy (length script + 2) (Said runs.turned.last ∷ [])
      last_by = subst (λ k. AreActsBy (k + 2) (Said runs.turned.last ∷ [])) count runs.last_by

      drawn : Draws seed (range_with_len 0 (length script + 2)) seed runs.turned.turns runs.orders
      drawn = subst (λ k. Draws seed (range_with_len 0 (k + 2)) seed runs.turned.turns runs.orders) count runs.drawn

      two : (w : ℕ) → w ≡ 0 + (length script + 1 + 1) → length script + 2 ≡ w
      two w e = omega (arith, e)

  pub nobody_else : (script : Script) (seed limit : ℕ) (done : Bool) (old new : List (Actor O)) (pieces : List (Piece N S)) (order : List (Item N S)) → standings as_open old ≡ map standing_before script
      → (runs : RunsSo as_open seed limit done old new [] pieces) → moments_in (acts_in pieces) ≡ moments_from (begun 1) order
      → list_all (λ item. nat_lt (caller_of item) (length (run_of script runs.turned order).workers)) order ≡ true
  nobody_else script seed limit done old new pieces order same runs one =
      subst (λ m. list_all (λ item. nat_lt (caller_of item) m) order ≡ true) size
      (ap (list_all (λ item. nat_lt (caller_of item) (length script + 3))) whole
      ∙ of_turns (length script) (length script + 3) (standings as_open old) (standings as_open new) runs.turned.turns runs.orders (items_of (Said runs.turned.last ∷ []))
      (sym count ∙ sym (length-map old (standing_of as_open))) (omega arith) runs.go (subst (λ k. TurnsBy (k + 2) runs.turned.turns) count runs.by)
      (of_acts (length script + 3) (length script + 2) (Said runs.turned.last ∷ []) (subst (λ k. AreActsBy (k + 2) (Said runs.turned.last ∷ [])) count runs.last_by) (omega arith)))
    where
      count : length old ≡ length script
      count = as_scripted as_open script old same

      whole : order ≡ items_of (all_acts (turns_sequence runs.orders runs.turned.turns)) ++ items_of (Said runs.turned.last ∷ [])
      whole = sym (items_from (begun 1) order) ∙ ap (map (λ m. m.item)) (sym one) ∙ ap items_of (runs_acts as_open seed limit done old new pieces runs) ∙ whole_items runs.orders runs.turned

      size : length script + 3 ≡ length (run_of script runs.turned order).workers
      size =
          let a = length-append (map (λ w. map (turn_step w) runs.turned.turns) (range_with_len 0 (length script + 1 + 1))) (conductor_steps runs.turned ∷ []) in
          let b = length-map (range_with_len 0 (length script + 1 + 1)) (λ w. map (turn_step w) runs.turned.turns) in
          let c = length-range_with_len 0 (length script + 1 + 1) in
          let d : length (conductor_steps runs.turned ∷ []) ≡ 1 = refl in
          omega (arith, a, b, c, d)
