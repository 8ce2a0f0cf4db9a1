-- What the journal of a run says, by what is so of the run; and nothing is left where it says that the run is done.
use Rattle.std.specs.Prelude.{◌≡◌, ◌<◌, ◌≤◌, ◌+◌, ◌-◌, ℕ, Bool, true, false, cond, not, List, [], ◌∷◌, Option, Some, None, All, Contains, count_by, drop, find, is_some, length, slice_get, refl}
use Rattle.std.specs.List.{list_all}
use mathlib.Core.List.{IsPrefix}
use Rattle.std.proofs.Common.{arith, sym, ap, ◌∙◌, subst, length-drop}
use Rattle.std.proofs.lemmas.List.{length-map}
use Rattle.std.proofs.lemmas.List.Elements.{All-contains}
use Rattle.std.proofs.lemmas.List.Sums.{sum_by-cons}
use Rattle.zq_base.specs.Ends.{PipeId, other_end}
use Rattle.spec_pattern.specs.PipeStep.{committed_to, taken_from}
use Rattle.spec_control.specs.Place.{is_unmade}
use Rattle.spec_control.specs.Rows.{PairRow}
use Rattle.spec_control.specs.Control.{Control, Settlement, is_end, end_of, next_pair, place_of}
use Rattle.control_laws.proofs.ListLemmas.{and}
use Rattle.spec_run.specs.declared.journal.SettledRow.{SettledRow}
use Rattle.spec_run.specs.declared.journal.Journal.{Journal}
use Rattle.spec_run.specs.Script.{Script}
use Rattle.spec_run.specs.OwnedRun.{OwnedRun, IsRun, every_pipe, all_steps, control_at_end}
use Rattle.spec_run.specs.Fate.{settled_row}
use Rattle.spec_run.specs.RunLaws.{MessagesHaveOneFate}
use Rattle.spec_run.specs.Journal.{journal_at, object_shown, run_journal, row_if, row_shown, rows_by}
use Rattle.run_laws.specs.EndOrder.{EndInOrder, ObjectsEndInOrder}
use Rattle.run_laws.specs.DoneRuns.{NothingIsLeft, IsDoneWhole, DoneRunsLeaveNothing}
use Rattle.replay_laws.specs.LocalScript.{is_local_script, LocalScriptsRunLocally}
use Rattle.replay_laws.proofs.EventsLemmas.{script_local_by_events}
use Rattle.replay_laws.specs.ObjectsListed.{is_line_of, ListsObjects, ListsAllEnded}
use Rattle.replay_laws.specs.RowsListed.{IsWholeRow, KeepsOrder, ListsRows, ListsEachPipe, row_place}
use Rattle.replay_laws.specs.JournalLaws.{SaysOfObjects, SaysOfPipes, SaysOfTheDone, JournalsListObjects, DoneJournalsAreWhole, LocalPairsAreMade, JournalsByEventsSayAsMuch}
use Rattle.replay_laws.proofs.ObjectLemmas.{count_lines, listed, lists_objects}
use Rattle.replay_laws.proofs.LivingLemmas.{lists_living}
use Rattle.replay_laws.proofs.JournalRowLemmas.{IfRow, IsGood, shown_good, row_there, rows_counted, each_row}

-- ---- objects

says_of_objects : (N S : Type 0) → ObjectsEndInOrder N S → (script : Script) (j : Journal) (run : OwnedRun N S) → IsRun script 1 every_pipe run → j ≡ run_journal script 1 run → SaysOfObjects run j
says_of_objects N S in_order script j run is_run journal_is = record {
  listed =
      subst (λ (x : Journal). ListsObjects (control_at_end 1 run) x) (sym journal_is)
      (lists_objects (control_at_end 1 run) script run (in_order script 1 every_pipe run is_run));
  «living» = lists_living j;
}

pub journals_list : (N S : Type 0) → ObjectsEndInOrder N S → JournalsListObjects N S
journals_list N S in_order script schedule j is = says_of_objects N S in_order script j is.run is.is_run is.journal_is

-- ---- rows

some_is : {X : Type 0} {x y : X} → Some x ≡ Some y → x ≡ y
some_is e = Prim.grind arith

behind_one : (k : ℕ) → 0 < k → 1 + (k - 1) ≡ k
behind_one k above = omega (arith, above)

module _ {N S : Type 0} (c : Control) (script : Script) (run : OwnedRun N S) where
  -- the row of a pipe at its place
  shown_at : (k : ℕ) (a : Bool) → 0 < k → k < next_pair c → slice_get (journal_at c script run).pipes (row_place k a) ≡ Some (row_shown c run (end_of k a))
  shown_at k a above within =
      let there = length-drop 1 c.rows.pairs in
      row_there (row_shown c run) 1 (k - 1) a (drop 1 c.rows.pairs) (omega (arith, there, above, within))
      ∙ ap (λ (n : ℕ). Some (row_shown c run (end_of n a))) (behind_one k above)

  pipe_shown : (p : PipeId) (o : Option SettledRow) (row : SettledRow) → IfRow (IsGood run p) o → o ≡ Some row → row.counts.pipe ≡ p
  pipe_shown p None row good e = absurd (no e)
    where
      no : ◌≡◌ {A = Option SettledRow} None (Some row) → ⊥
      no f = Prim.grind arith
  pipe_shown p (Some other) row good e = ap (λ (x : SettledRow). x.counts.pipe) (sym (some_is e)) ∙ good.pipe

  rows_listed : ((p : PipeId) → IfRow (IsGood run p) (row_shown c run p)) → ListsRows c (journal_at c script run)
  rows_listed good = record {
    count = let all = rows_counted (row_shown c run) 1 (drop 1 c.rows.pairs) in let pairs = length-drop 1 c.rows.pairs in omega (arith, all, pairs);
    each = λ k a row above within at. pipe_shown (end_of k a) (row_shown c run (end_of k a)) row (good (end_of k a)) (some_is (sym (shown_at k a above within) ∙ at));
  }

module _ {N S : Type 0} (script : Script) (j : Journal) (run : OwnedRun N S) (is_run : IsRun script 1 every_pipe run) (journal_is : j ≡ run_journal script 1 run) where
  abbrev at_end : Control
  at_end = control_at_end 1 run

  row_good : (p : PipeId) → IfRow (IsGood run p) (row_shown at_end run p)
  row_good p = let front : IsPrefix (taken_from p (all_steps run)) (committed_to p (all_steps run)) = is_run.in_order p refl in shown_good at_end run p front.0 (sym front.1) is_run.ended

  whole_if : (P : SettledRow → Type 0) → ((p : PipeId) (row : SettledRow) → IsGood run p row → P row) → (row : SettledRow) → Contains j.pipes (Some row) → P row
  whole_if P from row held =
      All-contains (IfRow P) j.pipes (Some row)
      (subst (λ (x : Journal). All (IfRow P) x.pipes) (sym journal_is) (each_row P (row_shown at_end run) (λ p. by p (row_shown at_end run p) (row_good p)) 1 (drop 1 at_end.rows.pairs))) held
    where
      by : (p : PipeId) (o : Option SettledRow) → IfRow (IsGood run p) o → IfRow P o
      by p None good = tt
      by p (Some x) good = from p x good

  pub says_of_pipes : SaysOfPipes run j
  says_of_pipes = record {
    rows = subst (λ (x : Journal). ListsRows at_end x) (sym journal_is) (rows_listed at_end script run row_good);
    whole = whole_if IsWholeRow (λ p row good. good.whole);
    order = whole_if (KeepsOrder run) (λ p row good. good.order);
    taken = λ p. is_run.in_order p refl;
  }

-- ---- a run that is done

record Found (test : Settlement → Bool) (ss : List Settlement) : Type 0 where
  one : Settlement
  is : find test ss ≡ Some one

found : (test : Settlement → Bool) (ss : List Settlement) → 1 ≤ count_by test ss → Found test ss
found test [] some = absurd (omega (arith, some))
found test (s ∷ ss) some = by (test s) refl (found test ss)
  where
    by : (b : Bool) → test s ≡ b → (1 ≤ count_by test ss → Found test ss) → Found test (s ∷ ss)
    by true e rest = record { one = s; is = ap (λ (b : Bool). cond b (Some s) (find test ss)) e }
    by false e rest =
        let all = sum_by-cons (λ x. cond (test x) 1 0) s ss in
        let none : ◌≡◌ {A = ℕ} (cond (test s) 1 0) 0 = ap {B = ℕ} (λ (b : Bool). cond b 1 0) e in
        let more = rest (omega (arith, all, none, some)) in
        record { one = more.one; is = ap (λ (b : Bool). cond b (Some s) (find test ss)) e ∙ more.is }

-- each place has its row where each pipe was settled
all_some : (row : PipeId → Option SettledRow) (n : ℕ) (pairs : List PairRow) → ((k : ℕ) (a : Bool) → n ≤ k → k < n + length pairs → is_some (row (end_of k a)) ≡ true)
    → list_all is_some (rows_by row n pairs) ≡ true
all_some row n [] each = refl
all_some row n (p ∷ pairs) each =
    and _ _ (each n true (omega arith) (omega arith))
    (and _ _ (each n false (omega arith) (omega arith)) (all_some row (n + 1) pairs (λ k a low high. each k a (omega (arith, low)) (omega (arith, high)))))

module _ {N S : Type 0} (c : Control) (script : Script) (run : OwnedRun N S) (order : EndInOrder c) (left : NothingIsLeft c) where
  ends_once : (i : ℕ) → i < length c.rows.objects → count_by (is_line_of i) (journal_at c script run).ended ≡ 1
  ends_once i lt = count_lines c i c.ended ∙ listed c script run order i lt true (left.objects i)

  settled_so : (k : ℕ) (a : Bool) → 0 < k → k < next_pair c → is_unmade (place_of c (other_end (end_of k a))) ≡ false → Found (λ s. is_end (other_end (end_of k a)) s.end) c.settlements
  settled_so k a above within made =
      let once = left.pipes (other_end (end_of k a)) above within made in
      found (λ s. is_end (other_end (end_of k a)) s.end) c.settlements (omega (arith, once))

  -- so its row is shown
  row_settled : (k : ℕ) (a : Bool) → 0 < k → k < next_pair c → is_unmade (place_of c (other_end (end_of k a))) ≡ false → row_shown c run (end_of k a) ≡ Some (settled_row c run (end_of k a))
  row_settled k a above within made =
      let f = settled_so k a above within made in
      ap (λ (o : Option Settlement). row_if o (settled_row c run (end_of k a))) f.is

  lists_each : ListsEachPipe c (journal_at c script run)
  lists_each k a above within made = (settled_row c run (end_of k a), shown_at c script run k a above within ∙ ap (λ (o : Option SettledRow). Some o) (row_settled k a above within made))

  -- where no pair is unmade, each pipe's
  lists_all : ((k : ℕ) (a : Bool) → is_unmade (place_of c (end_of k a)) ≡ false) → list_all is_some (journal_at c script run).pipes ≡ true
  lists_all made = all_some (row_shown c run) 1 (drop 1 c.rows.pairs) each
    where
      each : (k : ℕ) (a : Bool) → 1 ≤ k → k < 1 + length (drop 1 c.rows.pairs) → is_some (row_shown c run (end_of k a)) ≡ true
      each k a low high =
          let pairs = length-drop 1 c.rows.pairs in
          ap is_some (row_settled k a (omega (arith, low)) (omega (arith, pairs, low, high)) (made k (not a)))

module _ (N S : Type 0) (in_order : ObjectsEndInOrder N S) (leave : DoneRunsLeaveNothing N S) (script : Script) (j : Journal) (run : OwnedRun N S) (is_run : IsRun script 1 every_pipe run) (journal_is : j ≡ run_journal script 1 run) (done : j.done ≡ true) where
  abbrev end : Control
  end = control_at_end 1 run

  ordered : EndInOrder end
  ordered = in_order script 1 every_pipe run is_run

  whole : IsDoneWhole script 1 run
  whole = leave script 1 every_pipe run is_run (ap (λ (x : Journal). x.done) (sym journal_is) ∙ done)

  each_once : (i : ℕ) → i < length (run_journal script 1 run).objects → count_by (is_line_of i) (run_journal script 1 run).ended ≡ 1
  each_once i lt = let objects = length-map end.rows.objects object_shown in ends_once end script run ordered whole.nothing_left i (omega (arith, objects, lt))

  says_of_the_done : (is_local_script script ≡ true → (k : ℕ) (a : Bool) → is_unmade (place_of end (end_of k a)) ≡ false) → SaysOfTheDone run j script
  says_of_the_done made = record {
    objects = subst (λ (x : Journal). ListsAllEnded x) (sym journal_is) (record { each = each_once; none_live = whole.none_live });
    pipes = subst (λ (x : Journal). ListsEachPipe end x) (sym journal_is) (lists_each end script run ordered whole.nothing_left);
    all = λ plain. subst (λ (x : Journal). list_all is_some x.pipes ≡ true) (sym journal_is) (lists_all end script run ordered whole.nothing_left (made plain));
  }

module _ (N S : Type 0) (in_order : ObjectsEndInOrder N S) (leave : DoneRunsLeaveNothing N S) (pairs : LocalPairsAreMade N S) where
  pub done_whole : LocalScriptsRunLocally N S → DoneJournalsAreWhole N S
  done_whole run_locally script schedule j is done =
      says_of_the_done N S in_order leave script j is.run is.is_run is.journal_is done
      (λ plain. pairs 1 is.run.order is.is_run.control (run_locally script 1 schedule.turns schedule.seed is.turned is.run is.in_turns is.one_thread plain))

  -- and by events
  pub events_say : MessagesHaveOneFate N S → JournalsByEventsSayAsMuch N S
  events_say fated script events j is = record {
    objects = says_of_objects N S in_order script j is.run is.is_run is.journal_is;
    pipes = says_of_pipes script j is.run is.is_run is.journal_is;
    fates = fated script 1 every_pipe is.run is.is_run;
    done = λ done. says_of_the_done N S in_order leave script j is.run is.is_run is.journal_is done
        (λ plain. pairs 1 is.run.order is.is_run.control (script_local_by_events script 1 events is.run is.of_events plain));
  }
