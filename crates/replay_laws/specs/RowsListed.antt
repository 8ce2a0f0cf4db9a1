-- What the rows of a journal say of the messages of each pipe (own choice; whole messages in order: RFC 23).
use Rattle.std.specs.Prelude.{◌≡◌, ◌<◌, ◌+◌, ◌-◌, ◌*◌, nat_eq, ℕ, Bool, false, cond, List, ◌++◌, Option, Some, None, IsSome, if◌then◌else◌, length, slice_get}
use Rattle.zq_base.specs.Message.{Frames}
use Rattle.zq_base.specs.Ends.{other_end}
use Rattle.spec_pattern.specs.PipeStep.{committed_to, taken_from}
use Rattle.spec_control.specs.declared.end.Reason.{Reason}
use Rattle.spec_control.specs.Place.{is_unmade}
use Rattle.spec_control.specs.Control.{Control, end_of, next_pair, place_of}
use Rattle.spec_run.specs.declared.journal.SettledRow.{SettledRow}
use Rattle.spec_run.specs.declared.journal.Journal.{Journal}
use Rattle.spec_run.specs.JournalText.{rest_text, why_optional_text}
use Rattle.spec_run.specs.OwnedRun.{OwnedRun, all_steps}

-- the reason that is shown: of a rest, where there is one
abbrev pub reason_shown : SettledRow → Option Reason
reason_shown row = if nat_eq row.counts.rest 0 then None else row.reason

-- the counts of a row add up, and a reason is shown exactly where messages are left
pub record IsWholeRow (row : SettledRow) : Type 0 where
  pub sum : row.counts.sent ≡ row.counts.given + row.counts.heard + row.counts.dropped + row.counts.rest
  -- nothing is written to links or lost by them
  pub no_link : (row.counts.written ≡ 0) × (row.counts.lost ≡ 0)
  pub reason : 0 < row.counts.rest → IsSome (reason_shown row)
  pub no_reason : row.counts.rest ≡ 0 → reason_shown row ≡ None
  pub text : rest_text row.counts.rest row.reason ≡ why_optional_text (reason_shown row)

-- what the reader of a row's pipe took is a front of what its writer committed, message by message and whole, and the row counts both; what is left is the rest
pub record KeepsOrder {N S : Type 0} (run : OwnedRun N S) (row : SettledRow) : Type 0 where
  pub left : List Frames
  pub in_order : committed_to row.counts.pipe (all_steps run) ≡ taken_from row.counts.pipe (all_steps run) ++ left
  pub sent : row.counts.sent ≡ length (committed_to row.counts.pipe (all_steps run))
  pub taken : row.counts.given + row.counts.heard + row.counts.dropped ≡ length (taken_from row.counts.pipe (all_steps run))
  pub rest : row.counts.rest ≡ length left

-- the place of a pipe's row: of each pair, from 1 on, the pipe written by end a before the other
abbrev pub row_place : ℕ → (a : Bool) → ℕ
row_place k a = 2 * (k - 1) + cond a 0 1

-- the rows of a journal where the control plane is c at the end: a place for each pipe of each pair whose number was drawn
pub record ListsRows (c : Control) (j : Journal) : Type 0 where
  pub count : length j.pipes ≡ 2 * (next_pair c - 1)
  pub each : (k : ℕ) (a : Bool) (row : SettledRow) → 0 < k → k < next_pair c → slice_get j.pipes (row_place k a) ≡ Some (Some row) → row.counts.pipe ≡ end_of k a

-- each pipe of each pair that was made has its row, so was settled
abbrev pub ListsEachPipe : Control → Journal → Type 0
ListsEachPipe c j = (k : ℕ) (a : Bool) → 0 < k → k < next_pair c → is_unmade (place_of c (other_end (end_of k a))) ≡ false →
    (row : SettledRow) × (slice_get j.pipes (row_place k a) ≡ Some (Some row))
