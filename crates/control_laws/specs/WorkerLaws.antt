-- What a caller's own items say of its listeners and sessions is so in the control state, so that a request which they allow may be made (own choice).
use Rattle.std.specs.Prelude.{ℕ, List, []}
use Rattle.spec_control.specs.declared.entry.Item.{Item}
use Rattle.spec_control.specs.declared.request.Req.{Req}
use Rattle.spec_control.specs.Control.{begun}
use Rattle.spec_control.specs.ControlRun.{IsControlRun, MayAsk, after_all}
use Rattle.spec_control.specs.Held.{items_by}
use Rattle.spec_control.specs.Has.{AreBy}
use Rattle.spec_control.specs.OwnAsks.{MayAskOwn}
use Rattle.desk.specs.Asking.{IsOfWorkers}

-- in a control run by callers that may make it
abbrev pub WorkersMayAsk : (N S : Type 0) → Type 0
WorkersMayAsk N S = (workers : ℕ) (items : List (Item N S)) → IsControlRun (begun workers) items → AreBy [] (begun workers) items →
    (k : ℕ) (req : Req) → IsOfWorkers req → MayAskOwn (items_by k items) req → MayAsk (after_all items (begun workers)) req
