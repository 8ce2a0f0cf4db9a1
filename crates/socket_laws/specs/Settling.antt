-- What stands of settled pipes (own choice, after libzmq's `pipe_t`).
use Rattle.std.specs.Prelude.{◌≡◌, ℕ, List, All}
use Rattle.spec_control.specs.declared.entry.Item.{Item}
use Rattle.spec_control.specs.Control.{Control, Settlement, begun}
use Rattle.spec_control.specs.ControlRun.{after_all, IsControlRun}

-- a settlement's reason is that which its end has
abbrev pub HasItsReason : Control → Settlement → Type 0
HasItsReason c s = s.reason ≡ c.reasons s.end

-- so it is of each settlement of a control run
abbrev pub ReasonsStay : (N T : Type 0) → Type 0
ReasonsStay N T = (workers : ℕ) (items : List (Item N T)) → IsControlRun (begun workers) items →
    All (HasItsReason (after_all items (begun workers))) (after_all items (begun workers)).settlements
