-- What becomes of the messages of each pipe that was settled in a control run (own choice, after libzmq's `pipe_t`).
use Rattle.std.specs.Prelude.{◌≡◌, ◌<◌, ◌+◌, ℕ, List, All, IsSome}
use Rattle.spec_control.specs.declared.entry.Item.{Item}
use Rattle.spec_control.specs.Control.{Settlement, begun}
use Rattle.spec_control.specs.ControlRun.{after_all, IsControlRun}

-- each message that was committed was taken or is left, and some are left only where the reading end was asked
pub record IsAccounted (s : Settlement) : Type 0 where
  pub adds_up : s.counts.sent ≡ s.counts.got + s.counts.rest
  pub asked : 0 < s.counts.rest → IsSome s.reason

-- so it is of each settlement of a control run
abbrev pub RestOnlyWhereAsked : (N S : Type 0) → Type 0
RestOnlyWhereAsked N S = (workers : ℕ) (items : List (Item N S)) → IsControlRun (begun workers) items →
    All IsAccounted (after_all items (begun workers)).settlements
