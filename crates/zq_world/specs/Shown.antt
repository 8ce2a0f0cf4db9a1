-- What a core shows of a run, by what was done through it (own choice).
use Rattle.std.specs.Prelude.{◌≡◌, List, ◌++◌, Option, drop, flat_map, length, map}
use Rattle.zq_base.specs.Ends.{PipeId}
use Rattle.spec_pattern.specs.PipeStep.{committed_to}
use Rattle.spec_control.specs.declared.entry.Item.{Item}
use Rattle.spec_control.specs.Control.{Control, begun}
use Rattle.spec_control.specs.ControlRun.{after_all}
use Rattle.spec_control.specs.Reply.{root_state}
use Rattle.spec_run.specs.declared.journal.ActorLines.{ActorLines}
use Rattle.spec_run.specs.declared.journal.Journal.{Journal}
use Rattle.spec_run.specs.declared.journal.SettledRow.{SettledRow}
use Rattle.spec_run.specs.Act.{steps_in}
use Rattle.spec_run.specs.OwnedRun.{settlement_of}
use Rattle.spec_run.specs.InTurns.{is_ended}
use Rattle.spec_run.specs.Fate.{Fate, fates_taken, fates_left, is_heard_at, reason_left, row_of_fates}
use Rattle.spec_run.specs.Journal.{line_of, object_shown, row_if, rows_by}
use Rattle.zq_world.specs.Piece.{Piece, pipe_steps}
use Rattle.zq_world.specs.declared.cores.Shown.{Shown}

module _ {N S : Type 0} where
  -- of each message committed to the pipe, in order, what became of it by the end c
  abbrev pub fates_in_pieces : Control → List (Piece N S) → PipeId → List Fate
  fates_in_pieces c pieces p =
      flat_map (λ x. fates_taken (is_heard_at c p) p (steps_in x.acts) x.skips) pieces ++ fates_left (settlement_of c p)

  -- the row of a pipe, where it was settled
  abbrev pub row_in_pieces : Control → List (Piece N S) → PipeId → Option SettledRow
  row_in_pieces c pieces p = row_if (settlement_of c p)
      (row_of_fates p (length (committed_to p (pipe_steps pieces))) (fates_in_pieces c pieces p) (reason_left (settlement_of c p)))

  -- what is shown of the control plane at this end, and of each pipe what these pieces did
  pub record ShowsEnd (c : Control) (pieces : List (Piece N S)) (shown : Shown) : Type 0 where
    pub ended : shown.ended ≡ map (line_of c) c.ended
    pub pipes : shown.pipes ≡ rows_by (row_in_pieces c pieces) 1 (drop 1 c.rows.pairs)
    pub objects : shown.objects ≡ map object_shown c.rows.objects
    pub done_is : shown.done ≡ is_ended (root_state c)

  -- what is shown of a core that began with one I/O worker and has these items
  abbrev pub ShowsSo : List (Piece N S) → List (Item N S) → Shown → Type 0
  ShowsSo pieces order shown = ShowsEnd (after_all order (begun 1)) pieces shown

-- the journal of what actors said and a core shows
abbrev pub journal_with : List ActorLines → Shown → Journal
journal_with actors shown = record { actors = actors; ended = shown.ended; pipes = shown.pipes; objects = shown.objects; done = shown.done }
