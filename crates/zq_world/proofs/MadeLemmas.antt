-- What the deeds of a run by events tell, call by call and worker by worker.
use Rattle.std.proofs.Common.{◌≡◌, ◌<◌, ◌+◌, ℕ, List, [], ◌∷◌, ◌++◌, Bool, true, false, refl, sym, ap, subst, ◌∙◌, arith, inl, inr}
use Rattle.std.specs.Prelude.{◌==◌, nat_lt}
use Rattle.std.specs.List.{AllByRecursion, list_any}
use Rattle.std.proofs.lemmas.Bool.{eq-eqb, ne_eqb, eqb-true, eqb-false}
use Rattle.std.proofs.lemmas.Grind.{flat_map-append}
use Rattle.std.proofs.lemmas.List.Elements.{filter_map-append}
use Rattle.zq_base.specs.Ends.{PipeId}
use Rattle.spec_pattern.specs.PipeStep.{PipeStep, Seal}
use Rattle.spec_control.specs.Control.{begun}
use Rattle.spec_control.specs.ControlRun.{after_all}
use Rattle.spec_control.specs.Held.{caller_of}
use Rattle.spec_control.specs.Moments.{moments_by, items_in}
use Rattle.spec_run.specs.Act.{Act, Deed, Tries, Shuts, Fetches, Idles, Works, Looks, AsksRoot, Reads, acts_of, all_acts, steps_in, moment_of, moments_in}
use Rattle.spec_run.specs.Event.{seals_in}
use Rattle.spec_run.specs.Fate.{skips_of}
use Rattle.spec_run.specs.Worker.{ConductsSo}
use Rattle.spec_run.specs.CoreEvents.{Made, deeds_made, control_behind}
use Rattle.run_laws.proofs.GoesLemmas.{deeds_by, made_moments, IsPlaced}
use Rattle.zq_world.specs.Piece.{AreActsBy, piece_of, deed_pieces, acts_in}
use Rattle.zq_world.specs.Taking.{control_told}
use Rattle.zq_world.specs.CoreCalls.{IsReaper}
use Rattle.zq_world.specs.ByEvents.{piece_made, made_pieces, AreMadeBy}
use Rattle.zq_world.proofs.AskedLemmas.{all-append, items_of, items_of-append}
use Rattle.zq_world.proofs.CallerLemmas.{by_one}
use Rattle.zq_world.proofs.PieceLemmas.{acts_in-append, acts_one}
use Rattle.zq_world.proofs.ReaperLemmas.{both, only_piece}
use Rattle.zq_world.proofs.RiseLemmas.{Fit, all_both, fit_low, fit_silent, silent_seals}
use Rattle.zq_world.proofs.ToldLemmas.{mine, mine-append, mine_all, mine_none, AreOf, of_acts}
use Rattle.zq_world.proofs.WorkerLemmas.{one-append, own_piece, others_piece}

module _ {N S : Type 0} where
  pub made-append : (n : ℕ) (xs ys : List (Made N S)) → made_pieces n (xs ++ ys) ≡ made_pieces n xs ++ made_pieces n ys
  made-append n xs ys = flat_map-append (piece_made n) xs ys

  pub acts_made : (n : ℕ) (made : List (Made N S)) → acts_in (made_pieces n made) ≡ all_acts (deeds_made made)
  acts_made n [] = refl
  acts_made n (m ∷ made) =
      acts_in-append (piece_made n m) (made_pieces n made) ∙ ap (λ l. l ++ acts_in (made_pieces n made)) (acts_one m.worker (m.worker == n) (acts_of m.deed) (skips_of m.deed))
      ∙ ap (λ l. acts_of m.deed ++ l) (acts_made n made)

  -- the control plane behind them
  pub control_made : (n : ℕ) (made : List (Made N S)) → control_told (made_pieces n made) ≡ control_behind made (begun 1)
  control_made n made = ap (λ (acts : List (Act N S)). after_all (items_in (moments_in acts)) (begun 1)) (acts_made n made)

  -- the reaper's number is the only one that reaps
  pub alone_made : (n : ℕ) (made : List (Made N S)) → IsReaper n (made_pieces n made)
  alone_made n [] = record { only = tt; reaps = tt }
  alone_made n (m ∷ made) =
      both n (piece_made n m) (made_pieces n made) (only_piece n m.worker (m.worker == n) (acts_of m.deed) (skips_of m.deed) (λ e. eqb-true m.worker n e) (λ e. eq-eqb m.worker n e)) (alone_made n made)

  -- each worker's calls tell its deeds
  pub one_made : (n w : ℕ) (made : List (Made N S)) → by_one w (made_pieces n made) ≡ deed_pieces w (w == n) (deeds_by w made)
  one_made n w [] = refl
  one_made n w (m ∷ made) = one-append w (piece_made n m) (made_pieces n made) ∙ ap (λ l. by_one w (piece_made n m) ++ l) (one_made n w made) ∙ by (m.worker == w) refl
    where
      by : (b : Bool) → (m.worker == w) ≡ b → by_one w (piece_made n m) ++ deed_pieces w (w == n) (deeds_by w made) ≡ deed_pieces w (w == n) (deeds_by w (m ∷ made))
      by true e =
          let same = eqb-true m.worker w e in
          rw e (ap (λ l. l ++ deed_pieces w (w == n) (deeds_by w made))
          (own_piece w m.worker (m.worker == n) (acts_of m.deed) (skips_of m.deed) same ∙ ap (λ (k : ℕ). piece_of k (k == n) (acts_of m.deed) (skips_of m.deed)) same))
      by false e =
          rw e (ap (λ l. l ++ deed_pieces w (w == n) (deeds_by w made)) (others_piece w m.worker (m.worker == n) (acts_of m.deed) (skips_of m.deed) (eqb-false m.worker w e)))

  -- and its items are those by its number
  pub moments_one : (w : ℕ) (made : List (Made N S)) → AreMadeBy made → moments_in (all_acts (deeds_by w made)) ≡ moments_by w (made_moments made)
  moments_one w [] by_all = refl
  moments_one w (m ∷ made) by_all = by (m.worker == w) refl (moments_one w made by_all.1) ∙ sym (mine-append w (acts_of m.deed) (all_acts (deeds_made made)))
    where
      by : (b : Bool) → (m.worker == w) ≡ b → moments_in (all_acts (deeds_by w made)) ≡ moments_by w (made_moments made) → moments_in (all_acts (deeds_by w (m ∷ made))) ≡ mine w (acts_of m.deed) ++ mine w (all_acts (deeds_made made))
      by true e rest =
          rw e (filter_map-append moment_of (acts_of m.deed) (all_acts (deeds_by w made)) ∙ ap (λ l. moments_in (acts_of m.deed) ++ l) rest
          ∙ ap (λ l. l ++ mine w (all_acts (deeds_made made))) (sym (mine_all w (acts_of m.deed) (subst (λ (k : ℕ). AreActsBy k (acts_of m.deed)) (eqb-true m.worker w e) by_all.0))))
      by false e rest =
          rw e (rest ∙ ap (λ l. l ++ mine w (all_acts (deeds_made made))) (sym (mine_none w m.worker (acts_of m.deed) by_all.0 (eqb-false m.worker w e))))

  -- nobody but the workers has items
  pub few_made : (n : ℕ) (made : List (Made N S)) → AreMadeBy made → AllByRecursion (IsPlaced n 1) made → AreOf (n + 3) (items_of (all_acts (deeds_made made)))
  few_made n [] by_all placed = refl
  few_made n (m ∷ made) by_all placed =
      subst (AreOf (n + 3)) (sym (items_of-append (acts_of m.deed) (all_acts (deeds_made made))))
      (all-append (λ item. nat_lt (caller_of item) (n + 3)) (items_of (acts_of m.deed)) (items_of (all_acts (deeds_made made)))
      (of_acts (n + 3) m.worker (acts_of m.deed) by_all.0 (low placed.0)) (few_made n made by_all.1 placed.1))
    where
      low : IsPlaced n 1 m → m.worker < n + 3
      low (inl le) = omega (arith, le)
      low (inr so) = let e = so.0 in omega (arith, e)

module _ {N S : Type 0} (side : PipeStep → Bool) (seals : (p : PipeId) → side (Seal p) ≡ false) (n : ℕ) where
  silent_conducts : (d : Deed N S) → ConductsSo d → list_any side (steps_in (acts_of d)) ≡ false
  silent_conducts (Looks m) so = refl
  silent_conducts (AsksRoot acts) so = subst (λ (l : List (Act N S)). list_any side (steps_in l) ≡ false) (sym so.acts_are) (silent_seals N S side seals (seals_in so.asked))
  silent_conducts (Reads now) so = refl
  silent_conducts (Tries t) so = absurd so
  silent_conducts (Shuts acts) so = absurd so
  silent_conducts (Fetches slot acts) so = absurd so
  silent_conducts (Idles m) so = absurd so
  silent_conducts (Works acts) so = absurd so

  fit_one : (m : Made N S) → IsPlaced n 1 m → AllByRecursion (Fit side seals n) (piece_made n m)
  fit_one m (inl le) = fit_low side seals n m.worker (acts_of m.deed) (skips_of m.deed) le
  fit_one m (inr so) =
      let at : m.worker ≡ n + 2 = (let e = so.0 in omega (arith, e)) in
      subst (λ (b : Bool). AllByRecursion (Fit side seals n) (piece_of m.worker b (acts_of m.deed) (skips_of m.deed))) (sym (ne_eqb m.worker n (λ e. omega (arith, e, at))))
      (subst (λ (k : ℕ). AllByRecursion (Fit side seals n) (piece_of k false (acts_of m.deed) (skips_of m.deed))) (sym at) (fit_silent side seals n (acts_of m.deed) (skips_of m.deed) (silent_conducts m.deed so.1)))

  -- the calls fit
  pub fit_made : (made : List (Made N S)) → AllByRecursion (IsPlaced n 1) made → AllByRecursion (Fit side seals n) (made_pieces n made)
  fit_made [] placed = tt
  fit_made (m ∷ made) placed = all_both (Fit side seals n) (piece_made n m) (made_pieces n made) (fit_one m placed.0) (fit_made made placed.1)
