-- The first end of a pair between a socket and its session (zmq_setsockopt(3), ZMQ_SNDHWM and ZMQ_RCVHWM).
use Rattle.std.specs.Prelude.{◌≡◌}
use Rattle.zq_base.specs.declared.ids.ObjId.{ObjId}
use Rattle.spec_control.specs.Rows.{obj}
use Rattle.spec_control.specs.Control.{Control}
use Rattle.desk.specs.Holding.{IsCapacity}
use Rattle.desk.specs.Making.{MadeEnd}
use Rattle.ctl_state.specs.declared.state.State.{State}
use Rattle.ctl_state.specs.Stands.{Stands}
use Rattle.ctl_moves.specs.declared.joining_ends.Capacities.{Capacities}
use Rattle.ctl_moves.specs.Papers.{HasMarks}

-- an object has the marks of a socket: its own, or for a session those of its socket
pub record IsMarked {L : Type 0} (s : State L) (id : ObjId) : Type 0 where
  pub control : Control
  pub stands : Stands s control
  pub marks : HasMarks (obj control.rows id.0)

-- the pipes hold so many messages as those of this end
pub record HoldsAs (made : MadeEnd) (x : Capacities) : Type 0 where
  pub written : x.written ≡ made.written
  pub read : x.read ≡ made.read
  pub written_fits : IsCapacity x.written
  pub read_fits : IsCapacity x.read
