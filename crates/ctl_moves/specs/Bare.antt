-- The commands that concern no end, and what their processing needs (own choice).
use Rattle.std.specs.Prelude.{◌≡◌, ◌<◌, ◌≤◌, ℕ, true, false, Some, length}
use Rattle.spec_control.specs.declared.letter.Word.{Word}
use Rattle.spec_control.specs.declared.letter.Word.TheVariants.{Own, Plug, TermReq, Term, TermAck, PipeBind, PipeTerm, PipeTermAck, Stop, Reap}
use Rattle.spec_control.specs.Stage.{is_alive, has_ended}
use Rattle.spec_control.specs.Row.{LinkEvent, OwnComes, RequestComes, AckComes}
use Rattle.spec_control.specs.Rows.{obj}
use Rattle.spec_control.specs.Control.{Control}
use Rattle.control_laws.specs.Kept.{Kept}
use Rattle.control_laws.specs.Coming.{ComesToOwner}
use Rattle.control_laws.specs.Room.{to_come}
use Rattle.ctl_state.specs.declared.state.State.{State}
use Rattle.ctl_state.specs.Boxes.{mail_at}
use Rattle.ctl_state.specs.Stands.{Stands}

module _ {L : Type 0} (s : State L) where
  -- what is kept stands for a control state of which this is so
  pub record Somewhere (P : Control → Type 0) : Type 0 where
    pub control : Control
    pub stands : Stands s control
    pub is : P control

  -- an object that has not ended hears of its child, with room to tell the child, and to tell its own owner
  pub record HearsOf (event : LinkEvent) (at child : ℕ) (c : Control) : Type 0 where
    pub comes : ComesToOwner c at child event
    pub lives : has_ended (obj c.rows at).stage ≡ false
    pub room : is_alive (obj c.rows child).stage ≡ true → 0 < (mail_at s.boxes (obj c.rows child).slot).spare
    pub ack_room : (w : ℕ) → (obj c.rows at).owner ≡ Some w → 0 < (mail_at s.boxes (obj c.rows w).slot).spare

  -- what a command needs at the object that it is for
  abbrev pub Hears : ℕ → Word → Control → Type 0
  Hears at (Own child) c = HearsOf OwnComes at child.0 c
  Hears at (Plug end) c = Unit {0}
  Hears at (TermReq child) c = HearsOf RequestComes at child.0 c
  Hears at Term c = Unit {0}
  Hears at (TermAck child) c = HearsOf AckComes at child.0 c
  Hears at (PipeBind e peer) c = Unit {0}
  Hears at (PipeTerm e) c = Unit {0}
  Hears at (PipeTermAck e) c = Unit {0}
  Hears at Stop c = at < length c.rows.objects
  Hears at (Reap socket) c = Unit {0}

  -- a root that was not asked, with room for each Stop
  pub record MayAskRoot (c : Control) : Type 0 where
    pub kept : Kept c
    pub alive : is_alive (obj c.rows 0).stage ≡ true
    pub room : (m : ℕ) → to_come c m ≤ (mail_at s.boxes m).spare
