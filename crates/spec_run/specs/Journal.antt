-- The journal of a run, and its status (own format).
use Rattle.std.specs.Prelude.{◌≡◌, ◌+◌, ℕ, true, false, List, [], ◌∷◌, Option, Some, None, IsSome, drop, map, if◌then◌else◌}
use Rattle.zq_base.specs.Ends.{PipeId}
use Rattle.zq_base.specs.declared.ids.ObjId.{ObjId}
use Rattle.spec_control.specs.Row.{Row}
use Rattle.spec_control.specs.Rows.{PairRow, obj}
use Rattle.spec_control.specs.Stage.{has_ended}
use Rattle.spec_control.specs.Control.{Control, Settlement, end_of}
use Rattle.spec_control.specs.Reply.{root_state}
use Rattle.spec_run.specs.Run.{Schedule}
use Rattle.spec_run.specs.declared.journal.Entry.{Entry}
use Rattle.spec_run.specs.declared.journal.ActorLines.{ActorLines}
use Rattle.spec_run.specs.declared.journal.ObjectLine.{ObjectLine}
use Rattle.spec_run.specs.declared.journal.ObjectRow.{ObjectRow}
use Rattle.spec_run.specs.declared.journal.SettledRow.{SettledRow}
use Rattle.spec_run.specs.declared.journal.Journal.{Journal}
use Rattle.spec_run.specs.Script.{Script}
use Rattle.spec_run.specs.Act.{Try, Deed, Tries, Shuts, Fetches, Idles, Works, Looks, AsksRoot, Reads}
use Rattle.spec_run.specs.OwnedRun.{OwnedRun, IsRun, every_pipe, deeds_in, control_at_end, settlement_of}
use Rattle.spec_run.specs.InTurns.{Turned, IsInTurns, IsOneThread, is_ended}
use Rattle.spec_run.specs.Fate.{settled_row, HaveOneFate}

-- the status of a run that is done, and of one that is unfinished
abbrev pub status_of_run : Journal → ℕ
status_of_run j = if j.done then 0 else 8

-- an object and what it is
abbrev pub line_of : Control → ObjId → ObjectLine
line_of c o = record { object = o; kind = (obj c.rows o.0).kind }

-- what an object is, and whether it has ended
abbrev pub object_shown : Row → ObjectRow
object_shown o = record { kind = o.kind; ended = has_ended o.stage }

-- a row, where there was a settlement
abbrev pub row_if : Option Settlement → SettledRow → Option SettledRow
row_if None row = None
row_if (Some s) row = Some row

-- the rows of the pairs from this number on: of each pair the pipe written by end a, then the other
abbrev pub rows_by : (PipeId → Option SettledRow) → ℕ → List PairRow → List (Option SettledRow)
rows_by row n [] = []
rows_by row n (p ∷ ps) = row (end_of n true) ∷ row (end_of n false) ∷ rows_by row (n + 1) ps

-- a pipe was settled
abbrev pub WasSettled : Control → PipeId → Type 0
WasSettled c p = IsSome (settlement_of c p)

module _ {N S : Type 0} where
  -- what is shown of a line that is over: its last answer, and the messages that all its tries dropped
  abbrev pub entry_shown : Try N S → Entry
  entry_shown t = record { line = t.line.number; answer = t.answer; skips = t.told }

  abbrev pub entries_shown : List (Deed N S) → List Entry
  entries_shown [] = []
  entries_shown (Tries t ∷ ds) = if t.over then entry_shown t ∷ entries_shown ds else entries_shown ds
  entries_shown (Shuts acts ∷ ds) = entries_shown ds
  entries_shown (Fetches slot acts ∷ ds) = entries_shown ds
  entries_shown (Idles m ∷ ds) = entries_shown ds
  entries_shown (Works acts ∷ ds) = entries_shown ds
  entries_shown (Looks m ∷ ds) = entries_shown ds
  entries_shown (AsksRoot acts ∷ ds) = entries_shown ds
  entries_shown (Reads now ∷ ds) = entries_shown ds

  -- each actor's answers
  abbrev pub actors_shown : Script → List (List (List (Deed N S))) → List ActorLines
  actors_shown [] workers = []
  actors_shown (actor ∷ actors) [] = []
  actors_shown (actor ∷ actors) (steps ∷ workers) =
      record { name = actor.name; entries = entries_shown (deeds_in steps) } ∷ actors_shown actors workers

  -- the row of a pipe, where it was settled
  abbrev pub row_shown : Control → OwnedRun N S → PipeId → Option SettledRow
  row_shown c run p = row_if (settlement_of c p) (settled_row c run p)

  -- the rows of the pairs from this number on
  abbrev pub rows_shown : Control → OwnedRun N S → ℕ → List PairRow → List (Option SettledRow)
  rows_shown c run n pairs = rows_by (row_shown c run) n pairs

  -- the journal, by the state of the control plane at the end
  abbrev pub journal_at : Control → Script → OwnedRun N S → Journal
  journal_at c script run = record {
    actors = actors_shown script run.workers;
    ended = map (line_of c) c.ended;
    pipes = rows_shown c run 1 (drop 1 c.rows.pairs);
    objects = map object_shown c.rows.objects;
    done = is_ended (root_state c);
  }

  abbrev pub run_journal : Script → (io : ℕ) → OwnedRun N S → Journal
  run_journal script io run = journal_at (control_at_end io run) script run

-- The journal is that of a run of the script on one thread by the schedule, in which the messages of each settled pipe have their fates.
pub record IsRunJournal (N S : Type 0) (script : Script) (schedule : Schedule) (j : Journal) : Type 0 where
  pub run : OwnedRun N S
  pub turned : Turned N S
  pub is_run : IsRun script 1 every_pipe run
  pub in_turns : IsInTurns script 1 schedule.turns turned run
  pub one_thread : IsOneThread schedule.seed script 1 turned run
  pub all_end : (p : PipeId) → WasSettled (control_at_end 1 run) p → HaveOneFate (control_at_end 1 run) run p
  pub journal_is : j ≡ run_journal script 1 run
