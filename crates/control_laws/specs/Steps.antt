-- A control event as steps of the rows: so each moves the ownership tree and the ends as their tables have it (own choice, after libzmq's `ctx_t`).
use Rattle.std.specs.Prelude.{ℕ, List}
use Rattle.spec_control.specs.declared.entry.Did.{Did}
use Rattle.spec_control.specs.declared.entry.Item.{Item}
use Rattle.spec_control.specs.Rows.{Rows, Step}
use Rattle.spec_control.specs.Control.{begun}
use Rattle.spec_control.specs.After.{after}
use Rattle.spec_control.specs.ControlRun.{Fits, after_all, IsControlRun}

-- steps that lead from these rows to others
pub data Steps (s : Rows) : Rows → Type 0 where
  no_step : Steps s s
  one_more : (t u : Rows) → Steps s t → Step t u → Steps s u

-- each event of a control run is made of steps
abbrev pub EventsAreSteps : (N S : Type 0) → Type 0
EventsAreSteps N S = (workers : ℕ) (items : List (Item N S)) → IsControlRun (begun workers) items →
    let c = after_all items (begun workers) in (did : Did N S) → Fits c did → Steps c.rows (after did c).rows
