-- The counts of the pipes that the reaper settles (own choice, after libzmq's `pipe_t`).
use Rattle.std.specs.Prelude.{◌++◌, ℕ, List, Option}
use Rattle.zq_base.specs.Ends.{PipeId}
use Rattle.msg_pipe.specs.Known.{Known}
use Rattle.spec_pattern.specs.PipeStep.{PipeStep}
use Rattle.spec_control.specs.declared.entry.Item.{Item}
use Rattle.spec_control.specs.Control.{begun}
use Rattle.spec_control.specs.ControlRun.{FitsItem, IsControlRun, after_all, after_item}
use Rattle.desk.specs.Lent.{HasAll}
use Rattle.desk.specs.Desk.{counts_with}
use Rattle.spec_run.specs.Act.{steps_in}
use Rattle.spec_run.specs.Event.{acts_said}
use Rattle.spec_run.specs.OwnedRun.{AreCountedBy}
use Rattle.socket_laws.specs.Standing.{PastStands}
use Rattle.closed_ends.specs.declared.sockets.ClosedSockets.{ClosedSockets}
use Rattle.closed_ends.specs.Counting.{counts_of}
use Rattle.closed_ends.specs.Has.{holding_in}
use Rattle.closed_ends.specs.Sound.{AreSound}

-- behind an item that tells, of a pipe that an end of closed sockets read, what joining its halves tells, settled pipes have the counts of the steps past
abbrev pub ReaperCountsGoOn : {S O I N : Type 0} → Known S O I N → (T : Type 0) → Type 0
ReaperCountsGoOn {S} {O} {I} {N} K T = (io : ℕ) (items : List (Item N T)) (item : Item N T) → IsControlRun (begun io) items → FitsItem (after_all items (begun io)) item →
    let c = after_all items (begun io) in
    (names : PipeId → Option N) (pipes : S) (closed : ClosedSockets N O I) → AreSound K pipes closed.sockets.items → HasAll names c (holding_in K.out_name K.in_name closed) →
    counts_with K.out_name (λ e writer. counts_of K pipes closed.sockets.items e writer) (holding_in K.out_name K.in_name closed) item →
    (past : List PipeStep) → PastStands K c names pipes past → AreCountedBy past c.settlements →
    AreCountedBy (past ++ steps_in (acts_said (record { found = c; item = item }))) (after_item item c).settlements
