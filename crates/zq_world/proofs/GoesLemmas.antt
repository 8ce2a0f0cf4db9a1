-- What goes by events over a core is a run of the script, and its journal that of these events.
use Rattle.std.proofs.Common.{◌≡◌, ◌<◌, ◌+◌, ℕ, List, [], ◌∷◌, ◌++◌, Bool, true, false, Some, length, map, drop, refl, sym, ap, subst, ◌∙◌, arith, length-append}
use Rattle.std.specs.Prelude.{◌==◌, filter, nat_lt, slice_get}
use Rattle.std.specs.List.{AllByRecursion, list_all, range_with_len}
use Rattle.std.proofs.lemmas.Bool.{ne_eqb}
use Rattle.std.proofs.lemmas.List.{length-map}
use Rattle.std.proofs.lemmas.List.FromFn.{length-range_with_len, map-range_with_len_more}
use Rattle.zq_base.specs.Ends.{PipeId}
use Rattle.spec_pattern.specs.PipeStep.{PipeStep, AreExact, Seal}
use Rattle.spec_control.specs.declared.entry.Item.{Item}
use Rattle.spec_control.specs.Control.{Control, begun}
use Rattle.spec_control.specs.ControlRun.{after_all}
use Rattle.spec_control.specs.Held.{caller_of}
use Rattle.spec_control.specs.Moments.{moments_from, moments_by}
use Rattle.spec_run.specs.declared.journal.ActorLines.{ActorLines}
use Rattle.spec_run.specs.Script.{Script}
use Rattle.spec_run.specs.Act.{Act, Deed, all_acts, steps_in, moments_in}
use Rattle.spec_run.specs.OpenSocket.{OpenSock}
use Rattle.spec_run.specs.Standing.{ActorStanding, standing_before}
use Rattle.spec_run.specs.OwnedRun.{OwnedRun, IsRun, deeds_in, all_steps, every_pipe, pipe_capacity, settlement_of}
use Rattle.spec_run.specs.InTurns.{worker_count}
use Rattle.spec_run.specs.CoreEvents.{CoreEvent, Made, deeds_made, EventsGo, IsOfEvents, IsEventsJournal}
use Rattle.spec_run.specs.Fate.{count_sent, fates_left, is_heard_at, reason_left, row_of_fates}
use Rattle.spec_run.specs.Journal.{actors_shown, entries_shown, row_if, row_shown}
use Rattle.run_laws.proofs.TurnLemmas.{map_length}
use Rattle.run_laws.proofs.GoesLemmas.{steps_by, steps_are, made_moments, IsPlaced, placed_run, go_local}
use Rattle.zq_world.specs.Piece.{Piece, deed_pieces, pipe_steps, acts_in}
use Rattle.zq_world.specs.Stepping.{entries_of, lines_of}
use Rattle.zq_world.specs.declared.actor.Actor.{Actor}
use Rattle.zq_world.specs.declared.cores.Shown.{Shown}
use Rattle.zq_world.specs.OneSided.{is_written, is_read}
use Rattle.zq_world.specs.Shown.{ShowsSo, fates_in_pieces, row_in_pieces}
use Rattle.zq_world.specs.Played.{IsOrderly}
use Rattle.zq_world.specs.ByEvents.{made_pieces, AreMadeBy, run_made, HasRun}
use Rattle.zq_world.proofs.AskedLemmas.{items_from}
use Rattle.zq_world.proofs.LookLemmas.{in_order_then, looks_then, counted_then, same_committed, same_taken}
use Rattle.zq_world.proofs.MadeLemmas.{acts_made, one_made, moments_one, few_made, fit_made}
use Rattle.zq_world.proofs.PlayLemmas.{all_said, same_by, journals_are}
use Rattle.zq_world.proofs.RiseLemmas.{Fit}
use Rattle.zq_world.proofs.ToldLemmas.{all_told}
use Rattle.zq_world.proofs.WholeLemmas.{written_alike, read_alike, fates_alike}

module _ {N S : Type 0} (script : Script) (events : List CoreEvent) (made : List (Made N S)) (new : List ActorStanding) (pieces : List (Piece N S)) (order : List (Item N S))
    (go : EventsGo 1 (begun 1) events (map standing_before script) made new) (by : AreMadeBy made) (are : pieces ≡ made_pieces (length script) made) (orderly : IsOrderly pieces order) where
  -- the workers, the conductor last
  abbrev pub split : List (List (List (Deed N S)))
  split = map (steps_by made) (range_with_len 0 (length script + 1 + 1)) ++ steps_by made (length script + 1 + 1) ∷ []

  pub same_workers : (run_made script made order).workers ≡ split
  same_workers = map-range_with_len_more (steps_by made) 0 (worker_count script 1) (worker_count script 1) (omega arith)

  abbrev pub run : OwnedRun N S
  run = record { workers = split; order = order }

  acts_are : acts_in pieces ≡ all_acts (deeds_made made)
  acts_are = ap acts_in are ∙ acts_made (length script) made

  one_order : made_moments made ≡ moments_from (begun 1) order
  one_order = ap moments_in (sym acts_are) ∙ orderly.same

  placed : AllByRecursion (IsPlaced (length script) 1) made
  placed = placed_run 1 (begun 1) events (map standing_before script) made new go (length script) (sym (map_length script))

  -- ---- each worker's calls

  fits : (side : PipeStep → Bool) (seals : (p : PipeId) → side (Seal p) ≡ false) → AllByRecursion (Fit side seals (length script)) pieces
  fits side seals = subst (AllByRecursion (Fit side seals (length script))) (sym are) (fit_made side seals (length script) made placed)

  told_by : (w : ℕ) → filter (λ x. x.by == w) pieces ≡ deed_pieces w (w == length script) (deeds_in (steps_by made w))
  told_by w = ap (filter (λ (x : Piece N S). x.by == w)) are ∙ one_made (length script) w made ∙ ap (deed_pieces w (w == length script)) (sym (steps_are w made))

  each : (i w : ℕ) → w ≡ 0 + i → i < length script + 1 + 1 → filter (λ x. x.by == w) pieces ≡ deed_pieces w (w == length script) (deeds_in (steps_by made w))
  each i w e lt = told_by w

  end : (w : ℕ) → w ≡ 0 + (length script + 1 + 1) → filter (λ x. x.by == w) pieces ≡ deed_pieces w false (deeds_in (steps_by made (length script + 1 + 1)))
  end w e =
      let at : w ≡ length script + 1 + 1 = omega (arith, e) in
      told_by w ∙ ap (λ (b : Bool). deed_pieces w b (deeds_in (steps_by made w))) (ne_eqb w (length script) (λ same. omega (arith, same, at)))
      ∙ ap (λ (k : ℕ). deed_pieces w false (deeds_in (steps_by made k))) at

  written : (p : PipeId) → filter (is_written p) (pipe_steps pieces) ≡ filter (is_written p) (all_steps run)
  written = written_alike (length script) pieces (steps_by made) (steps_by made (length script + 1 + 1)) fits each end orderly.sided

  read : (p : PipeId) → filter (is_read p) (pipe_steps pieces) ≡ filter (is_read p) (all_steps run)
  read = read_alike (length script) pieces (steps_by made) (steps_by made (length script + 1 + 1)) fits each end orderly.sided

  -- ---- each worker's items

  items_by : (w : ℕ) → moments_in (all_acts (deeds_in (steps_by made w))) ≡ moments_by w (moments_from (begun 1) order)
  items_by w = ap (λ (ds : List (Deed N S)). moments_in (all_acts ds)) (steps_are w made) ∙ moments_one w made by ∙ ap (moments_by w) one_order

  size : length script + 3 ≡ length split
  size =
      let a = length-append (map (steps_by made) (range_with_len 0 (length script + 1 + 1))) (steps_by made (length script + 1 + 1) ∷ []) in
      let b = length-map (range_with_len 0 (length script + 1 + 1)) (steps_by made) in
      let c = length-range_with_len 0 (length script + 1 + 1) in
      let d : length (steps_by made (length script + 1 + 1) ∷ []) ≡ 1 = refl in
      omega (arith, a, b, c, d)

  nobody : list_all (λ item. nat_lt (caller_of item) (length split)) order ≡ true
  nobody = subst (λ (m : ℕ). list_all (λ item. nat_lt (caller_of item) m) order ≡ true) size
      (subst (λ (l : List (Item N S)). list_all (λ item. nat_lt (caller_of item) (length script + 3)) l ≡ true) (ap (map (λ m. m.item)) one_order ∙ items_from (begun 1) order)
      (few_made (length script) made by placed))

  -- ---- the run

  exact_made : AreExact (pipe_capacity (after_all order (begun 1))) [] (steps_in (all_acts (deeds_made made)))
  exact_made = subst (λ (l : List (Act N S)). AreExact (pipe_capacity (after_all order (begun 1))) [] (steps_in l)) acts_are orderly.exact

  is_run_split : IsRun script 1 every_pipe run
  is_run_split = record {
    «local» = go_local script 1 order events made new go one_order;
    in_order = λ p counts. in_order_then (pipe_capacity (after_all order (begun 1))) orderly.small (pipe_steps pieces) (all_steps run) orderly.exact p (written p) (read p);
    looks = λ p counts. looks_then (pipe_capacity (after_all order (begun 1))) orderly.small (pipe_steps pieces) (all_steps run) orderly.exact p (written p) (read p);
    control = orderly.control;
    «named» = orderly.named;
    asked = orderly.asked;
    told = all_told (steps_by made) (steps_by made (length script + 1 + 1)) (moments_from (begun 1) order) (length script + 1 + 1) 0 (λ i w e lt. items_by w)
        (λ w e. ap (λ (k : ℕ). moments_in (all_acts (deeds_in (steps_by made k)))) (at w e) ∙ items_by w);
    nobody_else = nobody;
    links = λ o. tt;
    ended = counted_then (pipe_steps pieces) (all_steps run) (λ p. same_committed p (pipe_steps pieces) (all_steps run) (written p)) (λ p. same_taken p (pipe_steps pieces) (all_steps run) (read p)) (after_all order (begun 1)).settlements orderly.settled;
  }
    where
      at : (w : ℕ) → w ≡ 0 + (length script + 1 + 1) → length script + 1 + 1 ≡ w
      at w e = omega (arith, e)

  pub is_run_made : IsRun script 1 every_pipe (run_made script made order)
  is_run_made = subst (λ (ws : List (List (List (Deed N S)))). IsRun script 1 every_pipe (record { workers = ws; order = order })) (sym same_workers) is_run_split

  pub is_of_events : IsOfEvents script 1 events (run_made script made order)
  is_of_events = record {
    made = made;
    standings = new;
    go = go;
    workers_are = refl;
    one_order = one_order;
    exact = exact_made;
  }

  -- ---- and each row is that of its pieces

  pub rows_made : (p : PipeId) → row_in_pieces (after_all order (begun 1)) pieces p ≡ row_shown (after_all order (begun 1)) (run_made script made order) p
  rows_made p =
      ap (λ n. row_if (settlement_of c p) (row_of_fates p n (fates_in_pieces c pieces p) (reason_left (settlement_of c p))))
      (ap length (same_committed p (pipe_steps pieces) (all_steps run) (written p)))
      ∙ ap (λ fates. row_if (settlement_of c p) (row_of_fates p (count_sent run p) (fates ++ fates_left (settlement_of c p)) (reason_left (settlement_of c p))))
      (fates_alike (length script) pieces (steps_by made) (steps_by made (length script + 1 + 1)) fits each end orderly.sided (is_heard_at c p) p)
      ∙ ap (λ (ws : List (List (List (Deed N S)))). row_shown c (record { workers = ws; order = order }) p) (sym same_workers)
    where
      c : Control
      c = after_all order (begun 1)

module _ {O N S : Type 0} (as_open : O → OpenSock) where
  -- what the actors said
  said_made : (script : Script) (events : List CoreEvent) (now : List (Actor O)) (pieces : List (Piece N S)) (order : List (Item N S)) (ran : HasRun as_open script events now pieces) → IsOrderly pieces order
      → map lines_of now ≡ actors_shown script (run_made script ran.made order).workers
  said_made script events now pieces order ran orderly =
      all_said (length script + 1 + 1) 0 script ran.start now (steps_by ran.made) (steps_by ran.made (length script + 1 + 1) ∷ []) ran.is_new.said ran.count (omega arith)
      (λ i w a b e was at. says i w a b e was at) (λ i a b was at. (ran.says i a b was at).name)
      ∙ ap (actors_shown script) (sym (same_workers script events ran.made _ pieces order ran.go ran.by ran.pieces_are orderly))
    where
      says : (i w : ℕ) (a b : Actor O) → w ≡ 0 + i → slice_get ran.start i ≡ Some a → slice_get now i ≡ Some b → entries_of b ≡ entries_of a ++ entries_shown (deeds_in (steps_by ran.made w))
      says i w a b e was at =
          (ran.says i a b was at).says ∙ ap (λ (ds : List (Deed N S)). entries_of a ++ entries_shown ds) (sym (steps_are i ran.made))
          ∙ ap (λ (k : ℕ). entries_of a ++ entries_shown (deeds_in (steps_by ran.made k))) (omega (arith, e))

  pub journal_made : (script : Script) (events : List CoreEvent) (now : List (Actor O)) (pieces : List (Piece N S)) (order : List (Item N S)) (lines : List ActorLines) (shown : Shown) → HasRun as_open script events now pieces
      → IsOrderly pieces order → ShowsSo pieces order shown → lines ≡ map lines_of now
      → IsEventsJournal N S script events (record { actors = lines; ended = shown.ended; pipes = shown.pipes; objects = shown.objects; done = shown.done })
  journal_made script events now pieces order lines shown ran orderly shows said = record {
    run = run_made script ran.made order;
    is_run = is_run_made script events ran.made _ pieces order ran.go ran.by ran.pieces_are orderly;
    of_events = is_of_events script events ran.made _ pieces order ran.go ran.by ran.pieces_are orderly;
    journal_is = journals_are _ _ _ _ _ _ _ _ _ _ (said ∙ said_made script events now pieces order ran orderly) shows.ended
        (shows.pipes ∙ same_by (row_in_pieces (after_all order (begun 1)) pieces) (row_shown (after_all order (begun 1)) (run_made script ran.made order)) (rows_made script events ran.made _ pieces order ran.go ran.by ran.pieces_are orderly) 1 (drop 1 (after_all order (begun 1)).rows.pairs))
        shows.objects shows.done_is;
  }
