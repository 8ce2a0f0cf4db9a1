-- The other end's acknowledgement comes to an end: the pipe that it read is settled, and it is gone (own choice, after libzmq's `pipe_t`).
use Rattle.std.specs.Prelude.{◌≡◌, ◌<◌, ◌≤◌, ◌+◌, ◌&&◌, ◌==◌, ℕ, true, false, cond, Option, Some, length}
use Rattle.std.specs.List.{list_any}
use Rattle.zq_base.specs.Ends.{other_end}
use Rattle.zq_base.specs.declared.ids.EndId.{EndId}
use Rattle.zq_base.specs.declared.ids.Settled.{Settled}
use Rattle.spec_control.specs.declared.end.EndState.{EndState}
use Rattle.spec_control.specs.declared.end.EndEvent.TheVariants.{AckCame}
use Rattle.spec_control.specs.EndLife.{comes}
use Rattle.spec_control.specs.Stage.{has_ended}
use Rattle.spec_control.specs.Place.{At}
use Rattle.spec_control.specs.Rows.{obj}
use Rattle.spec_control.specs.Control.{Control, commands_in, happens, is_end, owner_of, place_of}
use Rattle.spec_control.specs.ControlRun.{IsSettled}
use Rattle.desk.specs.declared.load.Load.{Load}
use Rattle.desk.specs.Holding.{Holding}
use Rattle.desk.specs.Lent.{HasAll}
use Rattle.ctl_state.specs.declared.state.State.{State}
use Rattle.ctl_state.specs.Boxes.{mail_at}
use Rattle.ctl_state.specs.Stands.{Stands, tells}
use Rattle.ctl_moves.specs.Turning.{Leads, turn_of}

module _ {N O I : Type 0} (out_name : O → N) (in_name : I → N) where
  -- an acknowledgement may come to an end that a lent holder has, with the writing half of the pipe that it read
  pub record SettlesAt (names : EndId → Option N) (c : Control) (s : State (Load N O I)) (h : Holding N) (e : EndId) (writer : O) : Type 0 where
    pub lent : h.holds (owner_of c e) ≡ true
    pub within : e.pair.0 < length c.rows.pairs
    pub listed : list_any (is_end e) c.attached ≡ true
    pub state : EndState
    pub there : place_of c e ≡ At state
    pub may_come : comes AckCame state ≡ true
    pub unended : has_ended (obj c.rows (owner_of c e)).stage ≡ false
    pub pipe : names (other_end e) ≡ Some (out_name writer)
    pub room : tells (commands_in AckCame (place_of c e)) ≡ true → 0 < (mail_at s.boxes (obj c.rows (owner_of c (other_end e))).slot).spare

  pub record MaySettle (s : State (Load N O I)) (h : Holding N) (e : EndId) (writer : O) : Type 0 where
    pub control : Control
    pub names : EndId → Option N
    pub stands : Stands s control
    pub has : HasAll names control h
    pub settles : SettlesAt names control s h e writer

  -- the end is gone, and its pipe was settled with these counts
  pub record SettlesEnd (names : EndId → Option N) (c : Control) (e : EndId) (counts : Settled) (s t : State (Load N O I)) (h k : Holding N) : Type 0 where
    pub leads : Leads out_name in_name names (turn_of e c (happens AckCame e c)) (happens AckCame e c) s t h k
    pub settled : IsSettled (c.reasons e) counts
    -- one command at the most was put, for the other end's owner
    pub spare : (m : ℕ) → (mail_at s.boxes m).spare ≤ (mail_at t.boxes m).spare + cond (tells (commands_in AckCame (place_of c e)) && (obj c.rows (owner_of c (other_end e))).slot == m) 1 0
