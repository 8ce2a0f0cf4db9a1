-- What a request is answered in a control run (zmq_bind(3), zmq_connect(3); own choice).
use Rattle.std.specs.Prelude.{◌≡◌, ℕ, List, [], ◌∷◌, ◌++◌}
use Rattle.spec_control.specs.declared.request.Req.{Req}
use Rattle.spec_control.specs.declared.request.Reply.{Reply}
use Rattle.spec_control.specs.declared.entry.Item.{Item}
use Rattle.spec_control.specs.Control.{begun}
use Rattle.spec_control.specs.ControlRun.{after_all, IsControlRun}
use Rattle.spec_control.specs.Reply.{reply_of}
use Rattle.spec_run.specs.Event.{IsRequest}
use Rattle.socket_laws.specs.Open.{moment_at}

-- the answer is that of its table, by what the request found: a close is done
abbrev pub RequestsAreAnswered : (N S : Type 0) → Type 0
RequestsAreAnswered N S = (io : ℕ) (before : List (Item N S)) (item : Item N S) → IsControlRun (begun io) (before ++ item ∷ []) →
    (req : Req) (reply : Reply) → IsRequest req reply (moment_at io before item) → reply ≡ reply_of (after_all before (begun io)) req
