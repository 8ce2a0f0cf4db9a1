-- The calls of each worker tell its deeds, in order.
use Rattle.std.proofs.Common.{◌≡◌, ◌≢◌, ◌<◌, ◌+◌, ℕ, zero, suc, List, [], ◌∷◌, ◌++◌, Bool, true, false, map, refl, sym, ap, ◌∙◌, arith, append-nil, append_assoc}
use Rattle.std.specs.Prelude.{◌==◌, flat_map}
use Rattle.std.specs.List.{range_with_len}
use Rattle.std.proofs.lemmas.Bool.{eqb-true, eqb-false}
use Rattle.std.proofs.lemmas.Grind.{flat_map-append}
use Rattle.std.proofs.lemmas.List.Elements.{filter-append}
use Rattle.spec_pattern.specs.declared.answers.Skip.{Skip}
use Rattle.spec_control.specs.Moments.{Moment}
use Rattle.spec_run.specs.Act.{Act, Deed, Looks, Reads, acts_of}
use Rattle.spec_run.specs.Fate.{skips_of}
use Rattle.spec_run.specs.OwnedRun.{deeds_in}
use Rattle.spec_run.specs.InTurns.{OneTurn, Draws, turn_step}
use Rattle.zq_world.specs.Piece.{Piece, piece_of, deed_pieces}
use Rattle.zq_world.specs.Turning.{times, turn_pieces, turns_pieces}
use Rattle.zq_world.proofs.OrderLemmas.{times_it, times_not, each_once, no_others}
use Rattle.zq_world.proofs.CallerLemmas.{by_one, by_callers, one_here, one_else}

module _ {N S : Type 0} where
  pub one-append : (w : ℕ) (xs ys : List (Piece N S)) → by_one w (xs ++ ys) ≡ by_one w xs ++ by_one w ys
  one-append w xs ys = filter-append (λ (x : Piece N S). x.by == w) xs ys

  pub pieces-append : (k : ℕ) (reaps : Bool) (ds es : List (Deed N S)) → deed_pieces k reaps (ds ++ es) ≡ deed_pieces k reaps ds ++ deed_pieces k reaps es
  pieces-append k reaps ds es = flat_map-append (λ (d : Deed N S). piece_of k reaps (acts_of d) (skips_of d)) ds es

  pub own_piece : (w v : ℕ) (reaps : Bool) (acts : List (Act N S)) (skips : List Skip) → v ≡ w → by_one w (piece_of v reaps acts skips) ≡ piece_of v reaps acts skips
  own_piece w v reaps [] skips same = refl
  own_piece w v reaps (act ∷ acts) skips same = one_here w (record { by = v; reaps = reaps; acts = act ∷ acts; skips = skips }) [] same

  pub others_piece : (w v : ℕ) (reaps : Bool) (acts : List (Act N S)) (skips : List Skip) → v ≢ w → by_one w (piece_of v reaps acts skips) ≡ []
  others_piece w v reaps [] skips ne = refl
  others_piece w v reaps (act ∷ acts) skips ne = one_else w (record { by = v; reaps = reaps; acts = act ∷ acts; skips = skips }) [] ne

  own : (w v : ℕ) (reaps : Bool) (ds : List (Deed N S)) → v ≡ w → by_one w (deed_pieces v reaps ds) ≡ deed_pieces v reaps ds
  own w v reaps [] same = refl
  own w v reaps (d ∷ ds) same =
      one-append w (piece_of v reaps (acts_of d) (skips_of d)) (deed_pieces v reaps ds)
      ∙ ap (λ l. l ++ by_one w (deed_pieces v reaps ds)) (own_piece w v reaps (acts_of d) (skips_of d) same)
      ∙ ap (λ l. piece_of v reaps (acts_of d) (skips_of d) ++ l) (own w v reaps ds same)

  others : (w v : ℕ) (reaps : Bool) (ds : List (Deed N S)) → v ≢ w → by_one w (deed_pieces v reaps ds) ≡ []
  others w v reaps [] ne = refl
  others w v reaps (d ∷ ds) ne =
      one-append w (piece_of v reaps (acts_of d) (skips_of d)) (deed_pieces v reaps ds)
      ∙ ap (λ l. l ++ by_one w (deed_pieces v reaps ds)) (others_piece w v reaps (acts_of d) (skips_of d) ne) ∙ others w v reaps ds ne

  -- the pieces of steps in an order
  abbrev stepped : (n : ℕ) → OneTurn N S → List ℕ → List (Piece N S)
  stepped n t order = flat_map (λ v. deed_pieces v (v == n) (turn_step v t)) order

  not_stepped : (n w : ℕ) (t : OneTurn N S) (order : List ℕ) → times w order ≡ 0 → by_one w (stepped n t order) ≡ []
  not_stepped n w t [] none = refl
  not_stepped n w t (v ∷ order) none = by (v == w) refl (λ e. not_stepped n w t order e)
    where
      by : (b : Bool) → (v == w) ≡ b → (times w order ≡ 0 → by_one w (stepped n t order) ≡ []) → by_one w (stepped n t (v ∷ order)) ≡ []
      by true e rest = absurd (some (times_it w v order (eqb-true v w e)))
        where
          some : times w (v ∷ order) ≡ times w order + 1 → ⊥
          some h = omega (arith, h, none)
      by false e rest =
          let h = times_not w v order (eqb-false v w e) in
          one-append w (deed_pieces v (v == n) (turn_step v t)) (stepped n t order)
          ∙ ap (λ l. l ++ by_one w (stepped n t order)) (others w v (v == n) (turn_step v t) (eqb-false v w e)) ∙ rest (omega (arith, h, none))

  once_stepped : (n w : ℕ) (t : OneTurn N S) (order : List ℕ) → times w order ≡ 1 → by_one w (stepped n t order) ≡ deed_pieces w (w == n) (turn_step w t)
  once_stepped n w t [] once = absurd (never once)
    where
      never : ◌≡◌ {A = ℕ} 0 1 → ⊥
      never e = omega (arith, e)
  once_stepped n w t (v ∷ order) once = by (v == w) refl (λ e. once_stepped n w t order e)
    where
      by : (b : Bool) → (v == w) ≡ b → (times w order ≡ 1 → by_one w (stepped n t order) ≡ deed_pieces w (w == n) (turn_step w t)) → by_one w (stepped n t (v ∷ order)) ≡ deed_pieces w (w == n) (turn_step w t)
      by true e rest =
          let is = eqb-true v w e in
          let h = times_it w v order is in
          one-append w (deed_pieces v (v == n) (turn_step v t)) (stepped n t order)
          ∙ ap (λ l. by_one w (deed_pieces v (v == n) (turn_step v t)) ++ l) (not_stepped n w t order (omega (arith, h, once)))
          ∙ append-nil (by_one w (deed_pieces v (v == n) (turn_step v t)))
          ∙ own w v (v == n) (turn_step v t) is
          ∙ ap (λ u. deed_pieces u (u == n) (turn_step u t)) is
      by false e rest =
          let h = times_not w v order (eqb-false v w e) in
          one-append w (deed_pieces v (v == n) (turn_step v t)) (stepped n t order)
          ∙ ap (λ l. l ++ by_one w (stepped n t order)) (others w v (v == n) (turn_step v t) (eqb-false v w e)) ∙ rest (omega (arith, h, once))

  turn_of_one : (n w : ℕ) (o : List ℕ) (t : OneTurn N S) (more : List (Piece N S))
      → by_one w (turn_pieces n o t ++ more) ≡ (by_one w (deed_pieces (n + 2) false t.begins) ++ by_one w (stepped n t o)) ++ by_one w more
  turn_of_one n w o t more = one-append w (turn_pieces n o t) more ∙ ap (λ l. l ++ by_one w more) (one-append w (deed_pieces (n + 2) false t.begins) (stepped n t o))

  -- a worker's calls, where the conductor has the last
  pub worker_told : (n w seed x : ℕ) (ts : List (OneTurn N S)) (os : List (List ℕ)) (last : List (Deed N S)) → Draws seed (range_with_len 0 (n + 2)) x ts os → w < n + 2
      → by_one w (turns_pieces n os ts ++ deed_pieces (n + 2) false last) ≡ deed_pieces w (w == n) (deeds_in (map (turn_step w) ts))
  worker_told n w seed x [] [] last draws lt = others w (n + 2) false last (λ e. omega (arith, e, lt))
  worker_told n w seed x [] (o ∷ os) last draws lt = others w (n + 2) false last (λ e. omega (arith, e, lt))
  worker_told n w seed x (t ∷ ts) [] last draws lt = elim draws [ ]
  worker_told n w seed x (t ∷ ts) (o ∷ os) last draws lt =
      ap (by_one w) (append_assoc (turn_pieces n o t) (turns_pieces n os ts) (deed_pieces (n + 2) false last))
      ∙ turn_of_one n w o t (turns_pieces n os ts ++ deed_pieces (n + 2) false last)
      ∙ ap (λ l. (l ++ by_one w (stepped n t o)) ++ by_one w (turns_pieces n os ts ++ deed_pieces (n + 2) false last)) (others w (n + 2) false t.begins (λ e. omega (arith, e, lt)))
      ∙ ap (λ l. l ++ by_one w (turns_pieces n os ts ++ deed_pieces (n + 2) false last)) (once_stepped n w t o (each_once w (n + 2) seed x o draws.0 draws.1 lt))
      ∙ ap (λ l. deed_pieces w (w == n) (turn_step w t) ++ l) (worker_told n w seed draws.0 ts os last draws.2 lt)
      ∙ sym (pieces-append w (w == n) (turn_step w t) (deeds_in (map (turn_step w) ts)))

  pub conductor_told : (n seed x : ℕ) (ts : List (OneTurn N S)) (os : List (List ℕ)) (m : Moment N S) → Draws seed (range_with_len 0 (n + 2)) x ts os
      → by_one (n + 2) (turns_pieces n os ts ++ deed_pieces (n + 2) false (Looks m ∷ [])) ≡ deed_pieces (n + 2) false (deeds_in (map (λ turn. turn.begins ++ Reads turn.reading ∷ []) ts ++ (Looks m ∷ []) ∷ []))
  conductor_told n seed x [] [] m draws = own (n + 2) (n + 2) false (Looks m ∷ []) refl
  conductor_told n seed x [] (o ∷ os) m draws = own (n + 2) (n + 2) false (Looks m ∷ []) refl
  conductor_told n seed x (t ∷ ts) [] m draws = elim draws [ ]
  conductor_told n seed x (t ∷ ts) (o ∷ os) m draws =
      ap (by_one (n + 2)) (append_assoc (turn_pieces n o t) (turns_pieces n os ts) (deed_pieces (n + 2) false (Looks m ∷ [])))
      ∙ turn_of_one n (n + 2) o t (turns_pieces n os ts ++ deed_pieces (n + 2) false (Looks m ∷ []))
      ∙ ap (λ l. (by_one (n + 2) (deed_pieces (n + 2) false t.begins) ++ l) ++ rest) (not_stepped n (n + 2) t o (no_others (n + 2) (n + 2) seed x o draws.0 draws.1 (omega arith)))
      ∙ ap (λ l. l ++ rest) (append-nil (by_one (n + 2) (deed_pieces (n + 2) false t.begins)) ∙ own (n + 2) (n + 2) false t.begins refl)
      ∙ ap (λ l. deed_pieces (n + 2) false t.begins ++ l) (conductor_told n seed draws.0 ts os m draws.2)
      ∙ ap (λ l. l ++ deed_pieces (n + 2) false (deeds_in others_end)) (sym (append-nil (deed_pieces (n + 2) false t.begins)) ∙ sym (pieces-append (n + 2) false t.begins (Reads t.reading ∷ [])))
      ∙ sym (pieces-append (n + 2) false (t.begins ++ Reads t.reading ∷ []) (deeds_in others_end))
    where
      rest : List (Piece N S)
      rest = by_one (n + 2) (turns_pieces n os ts ++ deed_pieces (n + 2) false (Looks m ∷ []))

      others_end : List (List (Deed N S))
      others_end = map (λ turn. turn.begins ++ Reads turn.reading ∷ []) ts ++ (Looks m ∷ []) ∷ []

module _ {N S X : Type 0} (f : Piece N S → List X) (g : Deed N S → List X) (told : (k : ℕ) (reaps : Bool) (d : Deed N S) → flat_map f (piece_of k reaps (acts_of d) (skips_of d)) ≡ g d) where
  pub told_deeds : (k : ℕ) (reaps : Bool) (ds : List (Deed N S)) → flat_map f (deed_pieces k reaps ds) ≡ flat_map g ds
  told_deeds k reaps [] = refl
  told_deeds k reaps (d ∷ ds) =
      flat_map-append f (piece_of k reaps (acts_of d) (skips_of d)) (deed_pieces k reaps ds)
      ∙ ap (λ l. l ++ flat_map f (deed_pieces k reaps ds)) (told k reaps d) ∙ ap (λ l. g d ++ l) (told_deeds k reaps ds)

  -- what all calls did, caller by caller, is what the workers' deeds did
  pub told_workers : (n : ℕ) (pieces : List (Piece N S)) (steps_of : ℕ → List (List (Deed N S))) (last : List (List (Deed N S))) (m k : ℕ)
      → ((i w : ℕ) → w ≡ k + i → i < m → by_one w pieces ≡ deed_pieces w (w == n) (deeds_in (steps_of w)))
      → ((w : ℕ) → w ≡ k + m → by_one w pieces ≡ deed_pieces w false (deeds_in last))
      → flat_map f (by_callers k (suc m) pieces) ≡ flat_map g (flat_map deeds_in (map steps_of (range_with_len k m) ++ last ∷ []))
  told_workers n pieces steps_of last zero k each end =
      ap (flat_map f) (append-nil (by_one k pieces) ∙ end k (omega arith)) ∙ told_deeds k false (deeds_in last) ∙ ap (flat_map g) (sym (append-nil (deeds_in last)))
  told_workers n pieces steps_of last (suc m) k each end =
      flat_map-append f (by_one k pieces) (by_callers (k + 1) (suc m) pieces)
      ∙ ap (λ l. l ++ flat_map f (by_callers (k + 1) (suc m) pieces)) (ap (flat_map f) (each 0 k (omega arith) (omega arith)) ∙ told_deeds k (k == n) (deeds_in (steps_of k)))
      ∙ ap (λ l. flat_map g (deeds_in (steps_of k)) ++ l)
      (told_workers n pieces steps_of last m (k + 1) (λ i w e lt. each (suc i) w (omega (arith, e)) (omega (arith, lt))) (λ w e. end w (omega (arith, e))))
      ∙ sym (flat_map-append g (deeds_in (steps_of k)) (flat_map deeds_in (map steps_of (range_with_len (k + 1) m) ++ last ∷ [])))
