-- Steps of calls at the ends of a socket are at those ends (own choice).
use Rattle.std.specs.Prelude.{◌≡◌, ◌<◌, ◌≤◌, ℕ, Bool, true, List, Some, None}
use Rattle.spec_pattern.specs.PipeStep.{PipeStep}
use Rattle.msg_pipe.specs.Known.{Known}
use Rattle.end_table.specs.declared.row.EndRow.{EndRow}
use Rattle.end_table.specs.Rows.{Rows, Table, row_at}
use Rattle.end_table.specs.Runs.{DoesAll}
use Rattle.spec_control.specs.Control.{Control, next_object, next_pair, owner_of, with_value}
use Rattle.spec_run.specs.SocketCall.{step_acts}
use Rattle.socket_laws.specs.Sides.{AreAtEnds, OpenSockets, OpensGoOn}

-- each end of these rows is of a pair that has its number, and of such an object
abbrev pub AreRowsAt : {O I : Type 0} → Control → (ℕ → Bool) → Rows O I → Type 0
AreRowsAt {O} {I} c may rows = (k : ℕ) (row : EndRow O I) → row_at rows k ≡ Some row → (row.end.pair.0 < next_pair c) × (may (owner_of c row.end) ≡ true)

-- so are the steps that calls at these rows make, and the rows behind them
abbrev pub StepsAreAtRows : {S O I N : Type 0} → Known S O I N → (M T : Type 0) → Type 0
StepsAreAtRows {S} {O} {I} {N} K M T = (c : Control) (may : ℕ → Bool) (steps : List PipeStep) (old new : Table S O I) → DoesAll K old steps new →
    AreRowsAt c may old.rows → AreAtEnds {N = M} {S = T} c may (step_acts steps) × AreRowsAt c may new.rows

-- how open sockets may change: not at all, by a close, and by the making of one under a number that no object had
pub record OpensChange : Type 0 where
  pub same : (c : Control) (opens : OpenSockets) → OpensGoOn c opens opens
  pub closed : (c : Control) (opens : OpenSockets) (o : ℕ) → OpensGoOn c opens (with_value o None opens)
  pub made : (c : Control) (opens : OpenSockets) (o k : ℕ) → next_object c ≤ o → OpensGoOn c opens (with_value o (Some k) opens)
