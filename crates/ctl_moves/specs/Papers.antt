-- What two sockets tell each other of themselves, and the capacities of the pipes between them (zmq_setsockopt(3): ZMQ_ROUTING_ID, ZMQ_SNDHWM, ZMQ_RCVHWM).
use Rattle.std.specs.Prelude.{◌≡◌, ℕ}
use Rattle.zq_base.specs.declared.ids.EndId.{EndId}
use Rattle.zq_base.specs.declared.ids.ObjId.{ObjId}
use Rattle.spec_control.specs.Row.{Row}
use Rattle.spec_control.specs.Rows.{obj}
use Rattle.spec_control.specs.Control.{Control}
use Rattle.desk.specs.Asking.{MayHave}
use Rattle.desk.specs.Holding.{IsCapacity}
use Rattle.desk.specs.Making.{capacity_between}
use Rattle.ctl_state.specs.declared.state.State.{State}
use Rattle.ctl_state.specs.Stands.{Stands}
use Rattle.ctl_moves.specs.declared.joining_ends.Capacities.{Capacities}
use Rattle.ctl_moves.specs.declared.owners.Owners.{Owners}
use Rattle.ctl_moves.specs.declared.papers.Marks.{Marks}
use Rattle.ctl_moves.specs.declared.papers.Papers.{Papers}

-- the marks of a socket
abbrev pub HasMarks : Row → Type 0
HasMarks o = MayHave o.options

-- both owners have theirs
pub record AreMarked {L : Type 0} (s : State L) (o : Owners) : Type 0 where
  pub control : Control
  pub stands : Stands s control
  pub first : HasMarks (obj control.rows o.first.0)
  pub last : HasMarks (obj control.rows o.last.0)

pub record MarksAre (o : Row) (marks : Marks) : Type 0 where
  pub out : marks.out ≡ o.options.hwm
  pub input : marks.input ≡ o.options.rcvhwm

-- a pipe holds what its writer may send ahead and what its reader may have waiting
pub record AreCapacities (c : Control) (o : Owners) (x : Capacities) : Type 0 where
  pub written : x.written ≡ capacity_between c o.first.0 o.last.0
  pub read : x.read ≡ capacity_between c o.last.0 o.first.0
  pub written_fits : IsCapacity x.written
  pub read_fits : IsCapacity x.read

-- the identity of the first end's owner, and that of the last one's
pub record ArePapers (c : Control) (o : Owners) (x : Papers) : Type 0 where
  pub identity : x.identity ≡ (obj c.rows o.first.0).options.id
  pub peer : x.peer ≡ (obj c.rows o.last.0).options.id

-- an end of the first socket's may be made with pipes to and from the last one, which hold what their marks say
pub record MayMake {L : Type 0} (s : State L) (first last : ObjId) (end : EndId) (may_make : EndId → ℕ → ℕ → Type 0) : Type 0 where
  pub control : Control
  pub stands : Stands s control
  pub first_marks : HasMarks (obj control.rows first.0)
  pub last_marks : HasMarks (obj control.rows last.0)
  pub makes : may_make end (capacity_between control first.0 last.0) (capacity_between control last.0 first.0)
