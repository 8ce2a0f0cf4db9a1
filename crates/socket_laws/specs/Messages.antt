-- What the calls of a socket on messages leave of the steps past (zmq_msg_send(3), zmq_msg_recv(3); own choice).
use Rattle.std.specs.Prelude.{◌≡◌, ◌==◌, ◌<◌, ◌++◌, ℕ, List, Option, Some}
use Rattle.zq_base.specs.Ends.{PipeId}
use Rattle.msg_pipe.specs.Known.{Known}
use Rattle.spec_pattern.specs.PipeStep.{PipeStep}
use Rattle.end_table.specs.declared.row.EndRow.{EndRow}
use Rattle.end_table.specs.Rows.{Rows, Table, row_at}
use Rattle.end_table.specs.Runs.{DoesAll}
use Rattle.end_table.specs.Past.{AreNamed}
use Rattle.spec_control.specs.Control.{Control, next_pair, owner_of}
use Rattle.spec_run.specs.OwnedRun.{pipe_capacity}
use Rattle.spec_run.specs.SocketCall.{step_acts}
use Rattle.socket_laws.specs.Sides.{AreAtEnds}
use Rattle.socket_laws.specs.Standing.{goes_in, PastStands}

-- each end of these rows is one of this object
abbrev pub AreOwned : {O I : Type 0} → Control → ℕ → Rows O I → Type 0
AreOwned {O} {I} c o rows = (k : ℕ) (row : EndRow O I) → row_at rows k ≡ Some row → owner_of c row.end ≡ o

module _ {S O I N : Type 0} (K : Known S O I N) where
  -- behind such calls, which made these steps at the ends of a socket, the steps past stand with those, and its halves have their names still
  pub record MessagesStand (T : Type 0) (c : Control) (names : PipeId → Option N) (o : ℕ) (past steps : List PipeStep) (new : Table S O I) : Type 0 where
    pub past_is : PastStands K c names new.pipes (past ++ steps)
    pub named : AreNamed K (goes_in c names) (pipe_capacity c) new.rows
    pub at_ends : AreAtEnds {N = N} {S = T} c (λ i. i == o) (step_acts steps)

  abbrev pub MessagesGoOn : (T : Type 0) → Type 0
  MessagesGoOn T = (c : Control) (names : PipeId → Option N) → ((p : PipeId) (n : N) → names p ≡ Some n → p.pair.0 < next_pair c) →
      (o : ℕ) (past steps : List PipeStep) (old new : Table S O I) → DoesAll K old steps new →
      AreNamed K (goes_in c names) (pipe_capacity c) old.rows → AreOwned c o old.rows →
      PastStands K c names old.pipes past → MessagesStand T c names o past steps new
