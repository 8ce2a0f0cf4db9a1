-- What is kept stands for a control state.
use Rattle.std.specs.Prelude.{◌≡◌, ◌<◌, ◌+◌, ℕ, Bool, true, false, List, Option, Some, sum_by, length, ◌≤◌, ◌&&◌, cond}
use Rattle.zq_base.specs.declared.ids.ObjId.{ObjId}
use Rattle.spec_control.specs.declared.letter.Word.{Word}
use Rattle.spec_control.specs.declared.letter.Word.TheVariants.{PipeTerm, PipeTermAck}
use Rattle.spec_control.specs.declared.book.Waiting.{Waiting}
use Rattle.spec_control.specs.Register.{Register, IsRegister, waiting_now}
use Rattle.spec_control.specs.Rows.{PairRow, of_ends, bind_waits, end_waits}
use Rattle.zq_base.specs.declared.ids.EndId.{EndId}
use Rattle.spec_control.specs.declared.end.EndEvent.{EndEvent}
use Rattle.spec_control.specs.declared.end.EndCommands.{EndCommands}
use Rattle.spec_control.specs.declared.end.EndCommands.TheVariants.{Nothing, TermAndSeal, Ack, Settle, SettleAndAck}
use Rattle.spec_control.specs.PairPhase.{Happens}
use Rattle.spec_control.specs.Hold.{Hold}
use Rattle.spec_control.specs.Control.{Control, moved, with_end, with_value, reason_in, place_of}
use Rattle.ctl_state.specs.declared.command.Command.{Command}
use Rattle.ctl_state.specs.declared.state.State.{State}
use Rattle.ctl_state.specs.Boxes.{mail_at, AreIn}
use Rattle.ctl_state.specs.Lists.{AreListed}
use Rattle.ctl_state.specs.Objects.{tree_row, kept_row, Counts, counts_at, AreObjects}
use Rattle.ctl_state.specs.Pairs.{ArePairs}
use Rattle.spec_control.specs.Place.{is_unmade}

-- the binds on their way to an object, and its ends that are attached and not gone
abbrev pub ends_counted : List PairRow → ℕ → Counts
ends_counted pairs i = record { binds = sum_by (of_ends bind_waits i) pairs; ends = sum_by (of_ends end_waits i) pairs }

-- 1 where a pair was made
abbrev pub made_once : PairRow → ℕ
made_once p = cond (is_unmade p.a && is_unmade p.b) 0 1

module _ {L : Type 0} where
  -- the mailbox of an object
  abbrev pub slot_of : State L → ℕ → ℕ
  slot_of s i = (tree_row s.objects i).slot.0

  -- a command for an object, with what it carries
  abbrev pub letter_for : ObjId → Word → Option L → Command L
  letter_for to word load = record { letter = record { to = to; word = word }; load = load }

  -- there is room for an object's acknowledgement in its owner's mailbox
  abbrev pub HasRoomForAck : State L → ℕ → Type 0
  HasRoomForAck s i = (owner : ℕ) → (kept_row s.objects i).owner ≡ Some owner → 0 < (mail_at s.boxes (kept_row s.objects owner).slot).spare

  -- each part of what is kept says what that part of the control state says
  pub record Stands (s : State L) (c : Control) : Type 0 where
    pub objects : AreObjects s.objects c.rows.objects
    pub pairs : ArePairs s.pairs c.rows.pairs c.reasons c.struck
    pub counted : (i : ℕ) → counts_at s.objects i ≡ ends_counted c.rows.pairs i
    pub sent : (i : ℕ) → (tree_row s.objects i).sent ≤ length c.rows.objects + sum_by made_once c.rows.pairs
    pub lists : AreListed s.objects.lists c.rows.pairs c.attached c.holds
    pub boxes : AreIn s.boxes c.boxes
    pub slots : length s.boxes ≡ c.slots
    pub workers : s.workers ≡ c.workers
    pub names : IsRegister s.book c.names

  -- of whatever control state the old one stands for, the new one stands for the updated one
  abbrev pub Updates : (Control → Control) → State L → State L → Type 0
  Updates f old new = (c : Control) → Stands old c → Stands new (f c)

-- an end is at an event of the table, and has told nobody yet
abbrev pub stepped : EndEvent → EndId → Control → Control
stepped event e c = record (moved (Happens event) e c) { reasons = with_end e (reason_in event (place_of c e) (c.reasons e)) c.reasons }

-- the connect of an end is struck
abbrev pub struck_now : EndId → Control → Control
struck_now e c = record c { struck = with_end e true c.struck }

-- there is a mailbox more
abbrev pub slot_more : Control → Control
slot_more c = record c { slots = c.slots + 1 }

-- the names are changed, or of them the connects that wait
abbrev pub names_by : (Register → Register) → Control → Control
names_by f c = record c { names = f c.names }

abbrev pub waits_by : (List Waiting → List Waiting) → Register → Register
waits_by f names = waiting_now (f names.waiting) names

-- the other end is told
abbrev pub tells : EndCommands → Bool
tells Nothing = false
tells TermAndSeal = true
tells Ack = true
tells Settle = false
tells SettleAndAck = true

-- what a socket holds is changed
abbrev pub holds_by : (List Hold → List Hold) → ℕ → Control → Control
holds_by f i c = record c { holds = with_value i (f (c.holds i)) c.holds }

-- what the other end gets, which is this one
abbrev pub told_word : EndCommands → EndId → Word
told_word Nothing e = PipeTermAck e
told_word TermAndSeal e = PipeTerm e
told_word Ack e = PipeTermAck e
told_word Settle e = PipeTermAck e
told_word SettleAndAck e = PipeTermAck e
