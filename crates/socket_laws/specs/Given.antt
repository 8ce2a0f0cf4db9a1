-- How many messages of a pipe were given by receives, and the row that a settled pipe has by that count (own choice).
use Rattle.std.specs.Prelude.{◌≡◌, ◌≤◌, ◌+◌, ◌-◌, ℕ, Bool, true, false, List, ◌++◌, Option, Some, None, drop, filter, length, sum_by}
use Rattle.std.specs.List.{filter_map}
use Rattle.zq_base.specs.Ends.{PipeId}
use Rattle.spec_pattern.specs.PipeStep.{PipeStep, Commit, FullLook, RoomLook, Take, EmptyLook, DelimiterLook, WaitingLook, Seal, same_pipe, taken_from}
use Rattle.spec_control.specs.Control.{Control, Settlement}
use Rattle.spec_run.specs.declared.journal.SettledRow.{SettledRow}
use Rattle.spec_run.specs.Act.{steps_in}
use Rattle.spec_run.specs.Fate.{is_fate_given, fates_taken, is_heard_at}
use Rattle.spec_run.specs.OwnedRun.{settlement_of, IsCountedBy}
use Rattle.zq_world.specs.Piece.{Piece, pipe_steps}
use Rattle.zq_world.specs.Shown.{row_in_pieces}

-- the pipe that a step takes a message from
abbrev pub pipe_taken : PipeStep → Option PipeId
pipe_taken (Commit p m) = None
pipe_taken (FullLook p) = None
pipe_taken (RoomLook p) = None
pipe_taken (Take p m) = Some p
pipe_taken (EmptyLook p) = None
pipe_taken (DelimiterLook p) = None
pipe_taken (WaitingLook p) = None
pipe_taken (Seal p) = None

-- the pipes that messages were taken from, one for each message, in order
abbrev pub pipes_taken : List PipeStep → List PipeId
pipes_taken steps = filter_map pipe_taken steps

-- the row of a settled pipe by how many of its messages were given: a reader that publishes hears what it takes, and any other drops what it doesn't give
abbrev pub row_counted : (hears : Bool) → PipeId → (given : ℕ) → Settlement → SettledRow
row_counted true p given s = record {
  counts = record { pipe = p; sent = s.counts.sent; given = 0; heard = s.counts.got; dropped = 0; written = 0; lost = 0; rest = s.counts.rest };
  reason = s.reason;
}
row_counted false p given s = record {
  counts = record { pipe = p; sent = s.counts.sent; given = given; heard = 0; dropped = s.counts.got - given; written = 0; lost = 0; rest = s.counts.rest };
  reason = s.reason;
}

module _ {N S : Type 0} where
  -- how many of the messages that a call took from the pipe it gave, where the reader doesn't publish
  abbrev pub given_of_call : PipeId → Piece N S → ℕ
  given_of_call p x = length (filter is_fate_given (fates_taken false p (steps_in x.acts) x.skips))

  -- and how many all these calls gave
  abbrev pub given_at : PipeId → List (Piece N S) → ℕ
  given_at p pieces = sum_by (given_of_call p) pieces

-- the row of each pipe is that of its settlement and of what was given, whether or not there was a settlement
pub record RowsAreCounted (N S : Type 0) : Type 0 where
  pub settled : (c : Control) (pieces : List (Piece N S)) (p : PipeId) (s : Settlement) → settlement_of c p ≡ Some s → IsCountedBy (pipe_steps pieces) s →
      row_in_pieces c pieces p ≡ Some (row_counted (is_heard_at c p) p (given_at p pieces) s)
  pub unsettled : (c : Control) (pieces : List (Piece N S)) (p : PipeId) → settlement_of c p ≡ None → row_in_pieces c pieces p ≡ None

-- how the count goes on
pub record GivenGoesOn (N S : Type 0) : Type 0 where
  -- by further calls
  pub more : (p : PipeId) (before after : List (Piece N S)) → given_at p (before ++ after) ≡ given_at p before + given_at p after
  -- a call drops its first messages, as many as it tells, and gives those behind them
  pub one : (p : PipeId) (x : Piece N S) → given_of_call p x ≡ length (filter (same_pipe p) (drop (length x.skips) (pipes_taken (steps_in x.acts))))
  -- no more are given than were taken
  pub within : (p : PipeId) (pieces : List (Piece N S)) → given_at p pieces ≤ length (taken_from p (pipe_steps pieces))
