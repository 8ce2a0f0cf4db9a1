-- The pipes that a socket's request makes hold the messages that they hold in a run (zmq_setsockopt(3), ZMQ_SNDHWM and ZMQ_RCVHWM).
use Rattle.std.specs.Prelude.{◌≡◌, ◌≤◌, ◌<◌, ℕ, Bool, true, false, List, None}
use Rattle.zq_base.specs.declared.ids.EndId.{EndId}
use Rattle.zq_base.specs.Ends.{PipeId, other_end}
use Rattle.spec_control.specs.declared.entry.Item.{Item}
use Rattle.spec_control.specs.declared.request.Req.{Req}
use Rattle.spec_control.specs.declared.request.Reply.{Reply}
use Rattle.spec_control.specs.declared.request.Reply.TheVariants.{Done, Object, Pair, Both, Wait, Asked, Before, Refused}
use Rattle.spec_control.specs.Control.{Control, begun, next_pair}
use Rattle.spec_control.specs.ControlRun.{after_all, after_item, FitsItem, IsControlRun}
use Rattle.desk.specs.Asking.{IsOfSockets}
use Rattle.desk.specs.Making.{IsMadeFor}
use Rattle.spec_run.specs.Event.{IsRequest}
use Rattle.spec_run.specs.OwnedRun.{settlement_of, pipe_capacity}

-- a request so answered was not refused
abbrev pub is_done : Reply → Bool
is_done Done = true
is_done (Object o) = true
is_done (Pair p) = true
is_done (Both o p) = true
is_done Wait = true
is_done Asked = true
is_done Before = false
is_done (Refused refusal) = false

-- The pair of an end got its number, and its two pipes hold so many messages: the one that the end writes, and the one that it reads. No pipe was settled.
pub record HoldSo (c now : Control) (e : EndId) (written read : ℕ) : Type 0 where
  pub drawn : next_pair c ≤ e.pair.0
  pub numbered : e.pair.0 < next_pair now
  pub written_is : written ≡ pipe_capacity now e
  pub read_is : read ≡ pipe_capacity now (other_end e)
  pub settles_none : (q : PipeId) → settlement_of c q ≡ None → settlement_of now q ≡ None

-- so it is of each end that a socket's request made, behind it
abbrev pub MadePipesHold : (N T : Type 0) → Type 0
MadePipesHold N T = (io : ℕ) (items : List (Item N T)) (item : Item N T) → IsControlRun (begun io) items → FitsItem (after_all items (begun io)) item →
    let c = after_all items (begun io) in
    (req : Req) (reply : Reply) → IsRequest req reply (record { found = c; item = item }) → is_done reply ≡ true →
    IsOfSockets true req → (e : EndId) (written read : ℕ) → IsMadeFor c req e written read → HoldSo c (after_item item c) e written read
