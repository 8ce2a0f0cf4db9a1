-- A script is played.
use Rattle.std.proofs.Common.{◌≡◌, ◌≤◌, ◌+◌, ℕ, zero, suc, List, [], ◌∷◌, ◌++◌, Bool, true, false, Option, Some, length, map, take, drop, refl, sym, ap, subst, ◌∙◌, arith}
use Rattle.std.specs.Prelude.{filter, slice_get}
use Rattle.std.specs.List.{AllByRecursion, range_with_len}
use Rattle.std.proofs.lemmas.List.{map-append}
use Rattle.std.proofs.Math.Seq.{take-append_seam}
use Rattle.zq_base.specs.Ends.{PipeId}
use Rattle.zq_outer.specs.Readings.{ClockAt, GoesOn}
use Rattle.spec_pattern.specs.PipeStep.{PipeStep, AreExact}
use Rattle.spec_control.specs.declared.entry.Item.{Item}
use Rattle.spec_control.specs.Rows.{PairRow}
use Rattle.spec_control.specs.Control.{Control, begun, end_of}
use Rattle.spec_control.specs.ControlRun.{after_all}
use Rattle.spec_control.specs.Moments.{moments_from}
use Rattle.spec_run.specs.Run.{Schedule}
use Rattle.spec_run.specs.declared.journal.Entry.{Entry}
use Rattle.spec_run.specs.declared.journal.ActorLines.{ActorLines}
use Rattle.spec_run.specs.declared.journal.ObjectLine.{ObjectLine}
use Rattle.spec_run.specs.declared.journal.ObjectRow.{ObjectRow}
use Rattle.spec_run.specs.declared.journal.SettledRow.{SettledRow}
use Rattle.spec_run.specs.declared.journal.Journal.{Journal}
use Rattle.spec_run.specs.declared.script.ActorScript.{ActorScript}
use Rattle.spec_run.specs.Script.{Script}
use Rattle.spec_run.specs.Act.{Act, Deed, moments_in, steps_in}
use Rattle.spec_run.specs.OpenSocket.{OpenSock}
use Rattle.spec_run.specs.Standing.{ActorStanding, standing_before}
use Rattle.spec_run.specs.OwnedRun.{IsRun, all_steps, deeds_in, every_pipe, pipe_capacity, settlement_of}
use Rattle.spec_run.specs.InTurns.{Draws, IsOneThread, conductor_steps, readings_of, turn_step}
use Rattle.spec_run.specs.Fate.{count_sent, fates_left, is_heard_at, reason_left, row_of_fates}
use Rattle.spec_run.specs.Journal.{IsRunJournal, actors_shown, entries_shown, row_if, row_shown, rows_by}
use Rattle.spec_run.proofs.JournalLemmas.{all_fates}
use Rattle.run_laws.proofs.TurnLemmas.{turns_local}
use Rattle.zq_world.specs.Piece.{Piece, acts_in, pipe_steps}
use Rattle.zq_world.specs.MayAsk.{MayAskLines, MayAskScript}
use Rattle.zq_world.specs.Seats.{AllAgree}
use Rattle.zq_world.specs.Stepping.{standing_of, entries_of, lines_of}
use Rattle.zq_world.specs.declared.seats.Seat.{Seat}
use Rattle.zq_world.specs.declared.actor.Actor.{Actor}
use Rattle.zq_world.specs.OneSided.{OneSided, is_written, is_read}
use Rattle.zq_world.specs.Shown.{ShowsSo, fates_in_pieces, row_in_pieces}
use Rattle.zq_world.specs.declared.cores.Shown.{Shown}
use Rattle.zq_world.specs.Turning.{standings, ActorsAgree, RunsSo}
use Rattle.zq_world.specs.GoesInTurns.{run_of}
use Rattle.zq_world.specs.Played.{IsOrderly, HasNone, AreNew, PlaysSo, lines_before}
use Rattle.zq_world.specs.Timed.{RunsTimed, PlaysTimed, IsTimedJournal}
use Rattle.zq_world.proofs.PieceLemmas.{runs_acts}
use Rattle.zq_world.proofs.AskedLemmas.{in_turns, as_scripted}
use Rattle.zq_world.proofs.ToldLemmas.{are_told, nobody_else}
use Rattle.zq_world.proofs.LookLemmas.{in_order_then, looks_then, counted_then, same_committed, same_taken}
use Rattle.zq_world.proofs.WholeLemmas.{same_written, same_read, same_fates}

all_more : {X : Type 0} (P : X → Type 0) (xs : List X) (x : X) → AllByRecursion P xs → P x → AllByRecursion P (xs ++ x ∷ [])
all_more P [] x all p = (p, tt)
all_more P (y ∷ xs) x all p = (all.0, all_more P xs x all.1 p)

module _ {O : Type 0} where
  pub new_none : AreNew {O = O} [] []
  new_none = record { stand = λ as_open. refl; said = refl; each = tt }

  pub new_more : (script : Script) (actor : ActorScript) (actors : List (Actor O)) (a : Actor O) → AreNew script actors → ((as_open : O → OpenSock) → standing_of as_open a ≡ standing_before actor) → a.seats ≡ []
      → lines_of a ≡ lines_before actor → AreNew (script ++ actor ∷ []) (actors ++ a ∷ [])
  new_more script actor actors a new stands seats says = record {
    stand = λ as_open. map-append (standing_of as_open) actors (a ∷ []) ∙ ap (λ l. l ++ standing_of as_open a ∷ []) (new.stand as_open)
        ∙ ap (λ x. map standing_before script ++ x ∷ []) (stands as_open) ∙ sym (map-append standing_before script (actor ∷ []));
    said = map-append lines_of actors (a ∷ []) ∙ ap (λ l. l ++ lines_of a ∷ []) new.said
        ∙ ap (λ x. map lines_before script ++ x ∷ []) says ∙ sym (map-append lines_before script (actor ∷ []));
    each = all_more HasNone actors a new.each seats;
  }

  pub new_at : (actors : List (Actor O)) (i : ℕ) (a : Actor O) → AllByRecursion HasNone actors → slice_get actors i ≡ Some a → HasNone a
  new_at [] i a all e = cc
  new_at (x ∷ actors) zero a all e = subst (λ (y : Actor O). HasNone y) (same e) all.0
    where
      same : ◌≡◌ {A = Option (Actor O)} (Some x) (Some a) → x ≡ a
      same f = cc
  new_at (x ∷ actors) (suc i) a all e = new_at actors i a all.1 e

module _ {O : Type 0} (as_open : O → OpenSock) where
  -- actors before the first lines of a script that may be asked
  may_at : (script : Script) (actors : List (Actor O)) → standings as_open actors ≡ map standing_before script → MayAskScript script
      → (i : ℕ) (a : Actor O) → slice_get actors i ≡ Some a → MayAskLines a.lines.now
  may_at script [] stand may i a e = cc
  may_at [] (x ∷ actors) stand may i a e = cc
  may_at (actor ∷ script) (x ∷ actors) stand may zero a e =
      let first : standing_of as_open x ≡ standing_before actor = cc in
      subst (λ (y : Actor O). MayAskLines y.lines.now) (same e) (subst MayAskLines (sym (ap (λ (s : ActorStanding). s.lines) first)) may.0)
    where
      same : ◌≡◌ {A = Option (Actor O)} (Some x) (Some a) → x ≡ a
      same f = cc
  may_at (actor ∷ script) (x ∷ actors) stand may (suc i) a e =
      let others : standings as_open actors ≡ map standing_before script = cc in
      may_at script actors others may.1 i a e

module _ {W O : Type 0} (as_open : O → OpenSock) (agrees : W → ℕ → O → Type 0) (was_made : W → ℕ → Type 0) where
  -- new actors have nothing to agree with, and the lines of a script that may be asked
  pub new_agree : (way : W) (script : Script) (actors : List (Actor O)) → MayAskScript script → AreNew script actors → ActorsAgree as_open agrees was_made way actors
  new_agree way script actors may new i a e = record {
    sockets = subst (λ (seats : List (Seat O)). AllAgree as_open agrees was_made way i seats) (sym (new_at actors i a new.each e)) (record { agree = tt; apart = tt });
    may = may_at as_open script actors (new.stand as_open) may i a e;
  }

lines_same : (m n : List ℕ) (es fs : List Entry) → m ≡ n → es ≡ fs → ◌≡◌ {A = ActorLines} (record { name = m; entries = es }) (record { name = n; entries = fs })
lines_same m n es fs e f = cc

module _ {O N S : Type 0} where
  -- the lines of actors at the end, from those before their first
  pub all_said : (m k : ℕ) (script : Script) (olds news : List (Actor O)) (steps : ℕ → List (List (Deed N S))) (last : List (List (List (Deed N S)))) → map lines_of olds ≡ map lines_before script → length news ≡ length olds
      → length script ≤ m → ((i w : ℕ) (a b : Actor O) → w ≡ k + i → slice_get olds i ≡ Some a → slice_get news i ≡ Some b → entries_of b ≡ entries_of a ++ entries_shown (deeds_in (steps w)))
      → ((i : ℕ) (a b : Actor O) → slice_get olds i ≡ Some a → slice_get news i ≡ Some b → b.name ≡ a.name)
      → map lines_of news ≡ actors_shown script (map steps (range_with_len k m) ++ last)
  all_said m k [] [] [] steps last said count le says names = refl
  all_said m k [] [] (b ∷ news) steps last said count le says names = cc
  all_said m k [] (a ∷ olds) news steps last said count le says names = cc
  all_said m k (actor ∷ script) [] news steps last said count le says names = cc
  all_said m k (actor ∷ script) (a ∷ olds) [] steps last said count le says names = cc
  all_said zero k (actor ∷ script) (a ∷ olds) (b ∷ news) steps last said count le says names = absurd (never le)
    where
      never : length (actor ∷ script) ≤ 0 → ⊥
      never e = omega (arith, e)
  all_said (suc m) k (actor ∷ script) (a ∷ olds) (b ∷ news) steps last said count le says names =
      let first : lines_of a ≡ lines_before actor = cc in
      let others : map lines_of olds ≡ map lines_before script = cc in
      ap (λ (l : List ActorLines). lines_of b ∷ l) (all_said m (k + 1) script olds news steps last others (let e = count in omega (arith, e)) (let e = le in omega (arith, e))
      (λ i w x y e was now. says (suc i) w x y (omega (arith, e)) was now) (λ i x y was now. names (suc i) x y was now))
      ∙ ap (λ (x : ActorLines). x ∷ actors_shown script (map steps (range_with_len (k + 1) m) ++ last))
      (lines_same b.name.now actor.name (entries_of b) (entries_shown (deeds_in (steps k))) (ap (λ n. n.now) (names 0 a b refl refl) ∙ ap (λ (x : ActorLines). x.name) first)
      (says 0 k a b (omega arith) refl refl ∙ ap (λ (x : ActorLines). x.entries ++ entries_shown (deeds_in (steps k))) first))

module _ {O N S : Type 0} (as_open : O → OpenSock) where
  pub on_one : (script : Script) (seed limit : ℕ) (done : Bool) (old new : List (Actor O)) (pieces : List (Piece N S)) (order : List (Item N S)) → standings as_open old ≡ map standing_before script
      → (runs : RunsSo as_open seed limit done old new [] pieces) → moments_in (acts_in pieces) ≡ moments_from (begun 1) order → AreExact (pipe_capacity (after_all order (begun 1))) [] (pipe_steps pieces)
      → IsOneThread seed script 1 runs.turned (run_of script runs.turned order)
  on_one script seed limit done old new pieces order same runs one exact = record {
    orders = runs.orders;
    drawn = subst (λ k. Draws seed (range_with_len 0 k) seed runs.turned.turns runs.orders) count runs.drawn;
    one_order = sym (ap moments_in (runs_acts as_open seed limit done old new pieces runs)) ∙ one;
    exact = subst (λ (l : List (Act N S)). AreExact (pipe_capacity (after_all order (begun 1))) [] (steps_in l)) (runs_acts as_open seed limit done old new pieces runs) exact;
  }
    where
      count : length old + 2 ≡ length script + 1 + 1
      count = let e = as_scripted as_open script old same in omega (arith, e)

  -- such a run is one of the script
  is_run : (script : Script) (seed limit : ℕ) (done : Bool) (old new : List (Actor O)) (pieces : List (Piece N S)) (order : List (Item N S)) → (same : standings as_open old ≡ map standing_before script)
      → (runs : RunsSo as_open seed limit done old new [] pieces) → IsOrderly pieces order → IsRun script 1 every_pipe (run_of script runs.turned order)
  is_run script seed limit done old new pieces order same runs orderly = record {
    «local» = turns_local script 1 limit runs.turned (run_of script runs.turned order) (in_turns as_open script seed limit done old new pieces order same runs orderly.same);
    in_order = λ p counts. in_order_then c orderly.small (pipe_steps pieces) steps orderly.exact p (written p) (read p);
    looks = λ p counts. looks_then c orderly.small (pipe_steps pieces) steps orderly.exact p (written p) (read p);
    control = orderly.control;
    «named» = orderly.named;
    asked = orderly.asked;
    told = are_told as_open script seed limit done old new pieces order same runs orderly.same;
    nobody_else = nobody_else as_open script seed limit done old new pieces order same runs orderly.same;
    links = λ o. tt;
    ended = counted_then (pipe_steps pieces) steps (λ p. same_committed p (pipe_steps pieces) steps (written p)) (λ p. same_taken p (pipe_steps pieces) steps (read p)) (after_all order (begun 1)).settlements orderly.settled;
  }
    where
      c : PipeId → ℕ
      c = pipe_capacity (after_all order (begun 1))

      steps : List PipeStep
      steps = all_steps (run_of script runs.turned order)

      written : (p : PipeId) → filter (is_written p) (pipe_steps pieces) ≡ filter (is_written p) (all_steps (run_of script runs.turned order))
      written p = same_written as_open script seed limit done old new pieces order same runs orderly.sided p

      read : (p : PipeId) → filter (is_read p) (pipe_steps pieces) ≡ filter (is_read p) (all_steps (run_of script runs.turned order))
      read p = same_read as_open script seed limit done old new pieces order same runs orderly.sided p

  -- and each row is that of its pieces
  same_rows : (script : Script) (seed limit : ℕ) (done : Bool) (old new : List (Actor O)) (pieces : List (Piece N S)) (order : List (Item N S)) → (same : standings as_open old ≡ map standing_before script)
      → (runs : RunsSo as_open seed limit done old new [] pieces) → OneSided pieces → (p : PipeId) → row_in_pieces (after_all order (begun 1)) pieces p ≡ row_shown (after_all order (begun 1)) (run_of script runs.turned order) p
  same_rows script seed limit done old new pieces order same runs sided p =
      ap (λ n. row_if (settlement_of end p) (row_of_fates p n (fates_in_pieces end pieces p) (reason_left (settlement_of end p))))
      (ap length (same_committed p (pipe_steps pieces) (all_steps (run_of script runs.turned order)) (same_written as_open script seed limit done old new pieces order same runs sided p)))
      ∙ ap (λ fates. row_if (settlement_of end p) (row_of_fates p (count_sent (run_of script runs.turned order) p) (fates ++ fates_left (settlement_of end p)) (reason_left (settlement_of end p))))
      (same_fates as_open script seed limit done old new pieces order same runs sided (is_heard_at end p) p)
    where
      end : Control
      end = after_all order (begun 1)

  plays_so : (script : Script) (seed limit : ℕ) (done : Bool) (old new : List (Actor O)) (after : List (Piece N S)) (order : List (Item N S)) (lines : List ActorLines) → AreNew script old
      → RunsSo as_open seed limit done old new [] after → IsOrderly after order → lines ≡ map lines_of new → PlaysSo script seed limit lines after order
  plays_so script seed limit done old new after order lines start run orderly said =
      let same = start.stand as_open in
      record {
        turned = run.turned;
        is_run = is_run script seed limit done old new after order same run orderly;
        in_turns = in_turns as_open script seed limit done old new after order same run orderly.same;
        one_thread = on_one script seed limit done old new after order same run orderly.same orderly.exact;
        lines_are = said ∙ all_said (length script + 1 + 1) 0 script old new (λ w. map (turn_step w) run.turned.turns) (conductor_steps run.turned ∷ []) start.said run.count (omega arith)
            (λ i w a b e was now. subst (λ (u : ℕ). entries_of b ≡ entries_of a ++ entries_shown (deeds_in (map (turn_step u) run.turned.turns))) (omega (arith, e)) (run.says i a b was now).says)
            (λ i a b was now. (run.says i a b was now).name);
        rows = λ p. same_rows script seed limit done old new after order same run orderly.sided p;
      }

  pub plays_timed : (script : Script) (seed limit : ℕ) (done : Bool) (old new : List (Actor O)) (before after : List (Piece N S)) (order : List (Item N S)) (lines : List ActorLines) (clock clock_now : ClockAt) → before ≡ []
      → AreNew script old → RunsTimed as_open seed limit done old new before after clock clock_now → IsOrderly after order → lines ≡ map lines_of new
      → PlaysTimed script seed limit lines after order clock clock_now
  unfolding plays_so
  plays_timed script seed limit done old new before after order lines clock clock_now none start timed orderly said =
      let run = subst (λ (l : List (Piece N S)). RunsTimed as_open seed limit done old new l after clock clock_now) none timed in
      record { plays = plays_so script seed limit done old new after order lines start run.runs orderly said; reads = run.reads }

  -- the clock went on
  pub ran_on : (seed limit : ℕ) (done : Bool) (old new : List (Actor O)) (before after : List (Piece N S)) (clock clock_now : ClockAt) → RunsTimed as_open seed limit done old new before after clock clock_now → GoesOn clock clock_now
  ran_on seed limit done old new before after clock clock_now timed = (readings_of timed.runs.turned, timed.reads)

-- what was lent is written back whole
pub written_back : {X : Type 0} (n : ℕ) (ys xs : List X) → length ys ≡ n → take n (ys ++ drop (length ys) xs) ≡ ys
written_back n ys xs same = subst (λ k. take k (ys ++ drop (length ys) xs) ≡ ys) same (take-append_seam ys (drop (length ys) xs))

-- ---- the journal

pub same_by : (row other : PipeId → Option SettledRow) → ((p : PipeId) → row p ≡ other p) → (n : ℕ) (pairs : List PairRow) → rows_by row n pairs ≡ rows_by other n pairs
same_by row other same n [] = refl
same_by row other same n (pair ∷ pairs) =
    ap (λ (r : Option SettledRow). r ∷ row (end_of n false) ∷ rows_by row (n + 1) pairs) (same (end_of n true))
    ∙ ap (λ (r : Option SettledRow). other (end_of n true) ∷ r ∷ rows_by row (n + 1) pairs) (same (end_of n false))
    ∙ ap (λ (l : List (Option SettledRow)). other (end_of n true) ∷ other (end_of n false) ∷ l) (same_by row other same (n + 1) pairs)

pub journals_are : (a b : List ActorLines) (c d : List ObjectLine) (e f : List (Option SettledRow)) (g h : List ObjectRow) (k l : Bool) → a ≡ b → c ≡ d → e ≡ f → g ≡ h → k ≡ l
    → ◌≡◌ {A = Journal} (record { actors = a; ended = c; pipes = e; objects = g; done = k }) (record { actors = b; ended = d; pipes = f; objects = h; done = l })
journals_are a b c d e f g h k l p q r s t = cc

module _ {N S : Type 0} where
  journal_so : (script : Script) (schedule : Schedule) (lines : List ActorLines) (pieces : List (Piece N S)) (order : List (Item N S)) (shown : Shown) → PlaysSo script schedule.seed schedule.turns lines pieces order
      → ShowsSo pieces order shown → IsRunJournal N S script schedule (record { actors = lines; ended = shown.ended; pipes = shown.pipes; objects = shown.objects; done = shown.done })
  journal_so script schedule lines pieces order shown plays shows = record {
    run = run_of script plays.turned order;
    turned = plays.turned;
    is_run = plays.is_run;
    in_turns = plays.in_turns;
    one_thread = plays.one_thread;
    all_end = all_fates (after_all order (begun 1)) (run_of script plays.turned order) plays.is_run.ended;
    journal_is = journals_are _ _ _ _ _ _ _ _ _ _ plays.lines_are shows.ended
        (shows.pipes ∙ same_by (row_in_pieces (after_all order (begun 1)) pieces) (row_shown (after_all order (begun 1)) (run_of script plays.turned order)) plays.rows 1 (drop 1 (after_all order (begun 1)).rows.pairs))
        shows.objects shows.done_is;
  }

  pub journal_timed : (script : Script) (schedule : Schedule) (lines : List ActorLines) (pieces : List (Piece N S)) (order : List (Item N S)) (shown : Shown) (clock clock_now : ClockAt)
      → PlaysTimed script schedule.seed schedule.turns lines pieces order clock clock_now → ShowsSo pieces order shown
      → IsTimedJournal N S script schedule clock clock_now (record { actors = lines; ended = shown.ended; pipes = shown.pipes; objects = shown.objects; done = shown.done })
  unfolding journal_so
  journal_timed script schedule lines pieces order shown clock clock_now timed shows =
      record { is_journal = journal_so script schedule lines pieces order shown timed.plays shows; reads = timed.reads }
