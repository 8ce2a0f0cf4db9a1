-- What was done in a run, in the order of making and worker by worker.
use Rattle.std.proofs.Common.{◌≡◌, ◌<◌, ◌+◌, ℕ, suc, List, [], ◌∷◌, ◌++◌, Bool, true, false, length, map, refl, sym, ap, subst, ◌∙◌, arith, append-nil, true≢false}
use Rattle.std.specs.Prelude.{◌==◌, ◌||◌, cond, filter, flat_map}
use Rattle.std.specs.List.{AllByRecursion, list_any, range_with_len}
use Rattle.std.proofs.lemmas.List.{length-map}
use Rattle.std.proofs.lemmas.List.Elements.{filter-append, filter_map-append}
use Rattle.zq_base.specs.Ends.{PipeId}
use Rattle.spec_pattern.specs.PipeStep.{PipeStep, Commit, FullLook, RoomLook, Take, EmptyLook, DelimiterLook, WaitingLook, Seal, same_pipe}
use Rattle.spec_pattern.specs.declared.answers.Skip.{Skip}
use Rattle.spec_control.specs.declared.entry.Item.{Item}
use Rattle.spec_run.specs.Script.{Script}
use Rattle.spec_run.specs.Act.{Act, Deed, Looks, pipe_step_of, acts_of, all_acts, steps_in}
use Rattle.spec_run.specs.OpenSocket.{OpenSock}
use Rattle.spec_run.specs.Standing.{standing_before}
use Rattle.spec_run.specs.OwnedRun.{deeds_in, all_deeds, all_steps}
use Rattle.spec_run.specs.InTurns.{Draws, NeverFall, turn_step, conductor_steps}
use Rattle.spec_run.specs.Fate.{Fate, fates_taken, fates_in, skips_of}
use Rattle.zq_world.specs.Piece.{Piece, piece_of, deed_pieces, acts_in, pipe_steps}
use Rattle.zq_world.specs.Stepping.{standing_of}
use Rattle.zq_world.specs.declared.actor.Actor.{Actor}
use Rattle.zq_world.specs.OneSided.{is_written, is_read, makes, AreOneSided, OneSided}
use Rattle.zq_world.specs.Turning.{standings, RunsSo, sequence_pieces}
use Rattle.zq_world.specs.GoesInTurns.{run_of}
use Rattle.zq_world.proofs.AskedLemmas.{as_scripted}
use Rattle.zq_world.proofs.CallerLemmas.{callers, same_by_callers}
use Rattle.zq_world.proofs.RiseLemmas.{Fit, rising, fit_sequence}
use Rattle.zq_world.proofs.WorkerLemmas.{worker_told, conductor_told, told_workers}

all_as : {X : Type 0} (P Q : X → Type 0) → ((x : X) → P x → Q x) → (xs : List X) → AllByRecursion P xs → AllByRecursion Q xs
all_as P Q f [] all = tt
all_as P Q f (x ∷ xs) all = (f x all.0, all_as P Q f xs all.1)

or_false : (a b : Bool) → (a || b) ≡ false → (a ≡ false) × (b ≡ false)
or_false true b e = absurd (true≢false e)
or_false false b e = (refl, e)

-- where no step is of a side, nothing is left of them
none_left : {X : Type 0} (test : X → Bool) (xs : List X) → list_any test xs ≡ false → filter test xs ≡ []
none_left test [] e = refl
none_left {X} test (x ∷ xs) e = let h = or_false (test x) (list_any test xs) e in ap (λ (b : Bool). cond b (x ∷ filter test xs) (filter test xs)) h.0 ∙ none_left test xs h.1

none_fated : (hears : Bool) (p : PipeId) (steps : List PipeStep) (skips : List Skip) → list_any (is_read p) steps ≡ false → fates_taken hears p steps skips ≡ []
none_fated hears p [] skips e = refl
none_fated hears p (Commit q m ∷ steps) skips e = none_fated hears p steps skips e
none_fated hears p (FullLook q ∷ steps) skips e = none_fated hears p steps skips e
none_fated hears p (RoomLook q ∷ steps) skips e = none_fated hears p steps skips e
none_fated hears p (Take q m ∷ steps) skips e = let h = or_false (same_pipe p q) (list_any (is_read p) steps) e in rw h.0 (none_fated hears p steps _ h.1)
none_fated hears p (EmptyLook q ∷ steps) skips e = none_fated hears p steps skips ((or_false (same_pipe p q) (list_any (is_read p) steps) e).1)
none_fated hears p (DelimiterLook q ∷ steps) skips e = none_fated hears p steps skips ((or_false (same_pipe p q) (list_any (is_read p) steps) e).1)
none_fated hears p (WaitingLook q ∷ steps) skips e = none_fated hears p steps skips ((or_false (same_pipe p q) (list_any (is_read p) steps) e).1)
none_fated hears p (Seal q ∷ steps) skips e = none_fated hears p steps skips e

written_seals : (p q : PipeId) → is_written p (Seal q) ≡ false
written_seals p q = refl

read_seals : (p q : PipeId) → is_read p (Seal q) ≡ false
read_seals p q = refl

abbrev no_side : PipeStep → Bool
no_side step = false

no_seals : (p : PipeId) → no_side (Seal p) ≡ false
no_seals p = refl

module _ {N S : Type 0} where
  -- the steps of a side that a call and a deed make
  abbrev side_of : (PipeStep → Bool) → Piece N S → List PipeStep
  side_of side x = filter side (steps_in x.acts)

  abbrev side_in : (PipeStep → Bool) → Deed N S → List PipeStep
  side_in side d = filter side (steps_in (acts_of d))

  sides-append : (side : PipeStep → Bool) (xs ys : List (Act N S)) → filter side (steps_in (xs ++ ys)) ≡ filter side (steps_in xs) ++ filter side (steps_in ys)
  sides-append side xs ys = ap (filter side) (filter_map-append pipe_step_of xs ys) ∙ filter-append side (steps_in xs) (steps_in ys)

  side_pieces : (side : PipeStep → Bool) (xs : List (Piece N S)) → filter side (pipe_steps xs) ≡ flat_map (side_of side) xs
  side_pieces side [] = refl
  side_pieces side (x ∷ xs) = sides-append side x.acts (acts_in xs) ∙ ap (λ l. side_of side x ++ l) (side_pieces side xs)

  side_deeds : (side : PipeStep → Bool) (ds : List (Deed N S)) → filter side (steps_in (all_acts ds)) ≡ flat_map (side_in side) ds
  side_deeds side [] = refl
  side_deeds side (d ∷ ds) = sides-append side (acts_of d) (all_acts ds) ∙ ap (λ l. side_in side d ++ l) (side_deeds side ds)

  side_told : (side : PipeStep → Bool) (k : ℕ) (reaps : Bool) (acts : List (Act N S)) (skips : List Skip) → flat_map (side_of side) (piece_of k reaps acts skips) ≡ filter side (steps_in acts)
  side_told side k reaps [] skips = refl
  side_told side k reaps (act ∷ acts) skips = append-nil (filter side (steps_in (act ∷ acts)))

  -- and what becomes of messages in them
  abbrev fates_of_piece : Bool → PipeId → Piece N S → List Fate
  fates_of_piece hears p x = fates_taken hears p (steps_in x.acts) x.skips

  fates_told : (hears : Bool) (p : PipeId) (k : ℕ) (reaps : Bool) (acts : List (Act N S)) (skips : List Skip)
      → flat_map (fates_of_piece hears p) (piece_of k reaps acts skips) ≡ fates_taken hears p (steps_in acts) skips
  fates_told hears p k reaps [] skips = refl
  fates_told hears p k reaps (act ∷ acts) skips = append-nil (fates_taken hears p (steps_in (act ∷ acts)) skips)

-- calls that fit, of which each worker's tell its deeds
module _ {N S : Type 0} (n : ℕ) (pieces : List (Piece N S)) (steps_of : ℕ → List (List (Deed N S))) (last : List (List (Deed N S)))
    (fits : (side : PipeStep → Bool) (seals : (p : PipeId) → side (Seal p) ≡ false) → AllByRecursion (Fit side seals n) pieces)
    (each : (i w : ℕ) → w ≡ 0 + i → i < n + 1 + 1 → filter (λ x. x.by == w) pieces ≡ deed_pieces w (w == n) (deeds_in (steps_of w)))
    (end : (w : ℕ) → w ≡ 0 + (n + 1 + 1) → filter (λ x. x.by == w) pieces ≡ deed_pieces w false (deeds_in last)) where
  -- the deeds of all workers, one worker behind another
  abbrev pub workers_deeds : List (Deed N S)
  workers_deeds = flat_map deeds_in (map steps_of (range_with_len 0 (n + 1 + 1)) ++ last ∷ [])

  rises : (side : PipeStep → Bool) → ((p : PipeId) → side (Seal p) ≡ false) → AreOneSided side [] pieces → NeverFall 0 (callers (makes side) pieces)
  rises side seals sided = rising side seals n 0 [] pieces sided (fits side seals) (λ z fit makes_z all. omega arith)

  few_callers : AllByRecursion (λ x. x.by < suc (n + 1 + 1)) pieces
  few_callers = all_as (Fit no_side no_seals n) (λ x. x.by < suc (n + 1 + 1)) (λ x (fit : Fit no_side no_seals n x). let lt = fit.few in omega (arith, lt)) pieces (fits no_side no_seals)

  -- what calls did at a side is what the deeds of the workers did there
  by_workers : {X : Type 0} (f : Piece N S → List X) (g : Deed N S → List X) (side : PipeStep → Bool) → ((p : PipeId) → side (Seal p) ≡ false) → AreOneSided side [] pieces
      → ((x : Piece N S) → makes side x ≡ false → f x ≡ []) → ((k : ℕ) (reaps : Bool) (d : Deed N S) → flat_map f (piece_of k reaps (acts_of d) (skips_of d)) ≡ g d)
      → flat_map f pieces ≡ flat_map g workers_deeds
  by_workers f g side seals sided none told =
      same_by_callers f (makes side) none (suc (n + 1 + 1)) 0 pieces (rises side seals sided) few_callers
      ∙ told_workers f g told n pieces steps_of last (n + 1 + 1) 0 each end

  same_side_steps : (side : PipeStep → Bool) → ((p : PipeId) → side (Seal p) ≡ false) → AreOneSided side [] pieces → filter side (pipe_steps pieces) ≡ filter side (steps_in (all_acts workers_deeds))
  same_side_steps side seals sided =
      side_pieces side pieces
      ∙ by_workers (side_of side) (side_in side) side seals sided (λ x e. none_left side (steps_in x.acts) e) (λ k reaps d. side_told side k reaps (acts_of d) (skips_of d))
      ∙ sym (side_deeds side workers_deeds)

  pub written_alike : OneSided pieces → (p : PipeId) → filter (is_written p) (pipe_steps pieces) ≡ filter (is_written p) (steps_in (all_acts workers_deeds))
  written_alike sided p = same_side_steps (is_written p) (written_seals p) (sided.written p)

  pub read_alike : OneSided pieces → (p : PipeId) → filter (is_read p) (pipe_steps pieces) ≡ filter (is_read p) (steps_in (all_acts workers_deeds))
  read_alike sided p = same_side_steps (is_read p) (read_seals p) (sided.read p)

  pub fates_alike : OneSided pieces → (hears : Bool) (p : PipeId) → flat_map (λ x. fates_taken hears p (steps_in x.acts) x.skips) pieces ≡ flat_map (fates_in hears p) workers_deeds
  fates_alike sided hears p =
      by_workers (fates_of_piece hears p) (fates_in hears p) (is_read p) (read_seals p) (sided.read p)
      (λ x e. none_fated hears p (steps_in x.acts) x.skips e) (λ k reaps d. fates_told hears p k reaps (acts_of d) (skips_of d))

-- and so those of a run in turns
module _ {O N S : Type 0} (as_open : O → OpenSock) (script : Script) (seed limit : ℕ) (done : Bool) (old new : List (Actor O)) (pieces : List (Piece N S)) (order : List (Item N S))
    (same : standings as_open old ≡ map standing_before script) (runs : RunsSo as_open seed limit done old new [] pieces) where
  count : length old ≡ length script
  count = as_scripted as_open script old same

  whole : pieces ≡ sequence_pieces (length script) runs.orders runs.turned
  whole = subst (λ k. pieces ≡ sequence_pieces k runs.orders runs.turned) count runs.pieces_are

  drawn : Draws seed (range_with_len 0 (length script + 2)) seed runs.turned.turns runs.orders
  drawn = subst (λ k. Draws seed (range_with_len 0 (k + 2)) seed runs.turned.turns runs.orders) count runs.drawn

  fits : (side : PipeStep → Bool) (seals : (p : PipeId) → side (Seal p) ≡ false) → AllByRecursion (Fit side seals (length script)) pieces
  fits side seals = subst (AllByRecursion (Fit side seals (length script))) (sym whole)
      (fit_sequence side seals (length script) (standings as_open old) (standings as_open new) runs.turned runs.orders (sym count ∙ sym (length-map old (standing_of as_open))) runs.go)

  each : (i w : ℕ) → w ≡ 0 + i → i < length script + 1 + 1 → filter (λ x. x.by == w) pieces ≡ deed_pieces w (w == length script) (deeds_in (map (turn_step w) runs.turned.turns))
  each i w e lt = ap (filter (λ (x : Piece N S). x.by == w)) whole ∙ worker_told (length script) w seed seed runs.turned.turns runs.orders (Looks runs.turned.last ∷ []) drawn (omega (arith, e, lt))

  end : (w : ℕ) → w ≡ 0 + (length script + 1 + 1) → filter (λ x. x.by == w) pieces ≡ deed_pieces w false (deeds_in (conductor_steps runs.turned))
  end w e = subst (λ k. filter (λ (x : Piece N S). x.by == k) pieces ≡ deed_pieces k false (deeds_in (conductor_steps runs.turned))) (omega (arith, e))
      (ap (filter (λ (x : Piece N S). x.by == length script + 2)) whole ∙ conductor_told (length script) seed seed runs.turned.turns runs.orders runs.turned.last drawn)

  pub same_written : OneSided pieces → (p : PipeId) → filter (is_written p) (pipe_steps pieces) ≡ filter (is_written p) (all_steps (run_of script runs.turned order))
  same_written = written_alike (length script) pieces (λ w. map (turn_step w) runs.turned.turns) (conductor_steps runs.turned) fits each end

  pub same_read : OneSided pieces → (p : PipeId) → filter (is_read p) (pipe_steps pieces) ≡ filter (is_read p) (all_steps (run_of script runs.turned order))
  same_read = read_alike (length script) pieces (λ w. map (turn_step w) runs.turned.turns) (conductor_steps runs.turned) fits each end

  pub same_fates : OneSided pieces → (hears : Bool) (p : PipeId)
      → flat_map (λ x. fates_taken hears p (steps_in x.acts) x.skips) pieces ≡ flat_map (fates_in hears p) (all_deeds (run_of script runs.turned order))
  same_fates = fates_alike (length script) pieces (λ w. map (turn_step w) runs.turned.turns) (conductor_steps runs.turned) fits each end
