-- What is done for the children of an object, one after the other.
use Rattle.std.specs.Prelude.{◌≤◌, ◌&&◌, ◌==◌, ℕ, Bool, cond, List, [], ◌∷◌, sum_by, if◌then◌else◌}
use Rattle.zq_base.specs.declared.ids.ObjId.{ObjId}
use Rattle.spec_control.specs.declared.letter.Word.TheVariants.{Stop}
use Rattle.spec_control.specs.Row.{Row, IsTold, StopPut, link_may}
use Rattle.spec_control.specs.Rows.{obj}
use Rattle.spec_control.specs.Control.{Control, link, put, tell_where}
use Rattle.ctl_state.specs.declared.state.State.{State}
use Rattle.ctl_state.specs.Boxes.{mail_at}
use Rattle.ctl_state.specs.Objects.{ObjectRows, kept_row}

-- what is done for each of these objects, in their order
abbrev pub done_for : (ℕ → Control → Control) → List ObjId → Control → Control
done_for f [] c = c
done_for f (id ∷ ids) c = done_for f ids (f id.0 c)

-- a child that its owner has noted is told where it may be
abbrev pub tell_noted : ℕ → Control → Control
tell_noted i c = tell_where (obj c.rows i).noted i c

-- a socket gets a Stop where it may get one
abbrev pub stop_one : ℕ → Control → Control
stop_one i c = if link_may StopPut (obj c.rows i) then put i Stop (link StopPut i c) else c

-- a child is noted, and may be told
abbrev pub may_tell : Row → Bool
may_tell o = o.noted && link_may IsTold o

-- a socket may get a Stop
abbrev pub may_stop : Row → Bool
may_stop o = link_may StopPut o

-- 1 where a command for this object is put into this mailbox
abbrev pub command_for : (Row → Bool) → ObjectRows → ℕ → ObjId → ℕ
command_for test kept k id = cond (test (kept_row kept id.0) && (kept_row kept id.0).slot == k) 1 0

-- each mailbox has room for the commands of these objects
pub record HaveRoom {L : Type 0} (test : Row → Bool) (s : State L) (ids : List ObjId) : Type 0 where
  pub each : (k : ℕ) → sum_by (command_for test s.objects k) ids ≤ (mail_at s.boxes k).spare
