-- The state of the control plane, and the small updates that its events are made of (own choice, after libzmq's `ctx_t`, `own_t` and `pipe_t`).
use Rattle.std.specs.Prelude.{◌+◌, ◌==◌, ◌&&◌, ℕ, zero, suc, Bool, true, false, not, List, [], ◌∷◌, ◌++◌, Option, Some, None, if◌then◌else◌, length, filter}
use Rattle.zq_base.specs.Ends.{other_end}
use Rattle.zq_base.specs.declared.ids.ObjId.{ObjId}
use Rattle.zq_base.specs.declared.ids.Settled.{Settled}
use Rattle.zq_base.specs.declared.ids.EndId.{EndId}
use Rattle.spec_control.specs.declared.end.EndEvent.{EndEvent}
use Rattle.spec_control.specs.declared.end.EndEvent.TheVariants.{Asked}
use Rattle.spec_control.specs.declared.end.EndCommands.{EndCommands}
use Rattle.spec_control.specs.declared.end.EndCommands.TheVariants.{Nothing, TermAndSeal, Ack, Settle, SettleAndAck}
use Rattle.spec_control.specs.declared.end.Reason.{Reason}
use Rattle.spec_control.specs.declared.end.Reason.TheVariants.{Closed, BadId, Second}
use Rattle.zq_base.specs.declared.attached.Attached.{Attached}
use Rattle.zq_base.specs.declared.attached.Attached.TheVariants.{Yes, BadId as IsBadId, Second as IsSecond}
use Rattle.spec_control.specs.declared.letter.Letter.{Letter}
use Rattle.spec_control.specs.declared.letter.Word.{Word}
use Rattle.spec_control.specs.declared.letter.Word.TheVariants.{Term, TermAck, PipeTerm, PipeTermAck, Stop}
use Rattle.spec_control.specs.declared.stage.Stage.TheVariants.{Finished}
use Rattle.spec_control.specs.EndLife.{cell, commands_of, has_met, reason_after}
use Rattle.spec_control.specs.Register.{Register, no_names}
use Rattle.spec_control.specs.Hold.{Hold}
use Rattle.spec_control.specs.Place.{Place, Unmade, Away, At, is_here}
use Rattle.spec_control.specs.PairPhase.{PairEvent, Opens, Happens}
use Rattle.spec_control.specs.Row.{Row, LinkEvent, IsTold, StopPut, link_may, link_after}
use Rattle.spec_control.specs.Rows.{Rows, root_alone, obj, pair, with_object, with_pair, end_place, end_owner, pair_after, is_owner, may_end}
use Rattle.spec_control.specs.Stage.{was_asked}

-- the counts of a pipe that was settled, by the end that read it, and why that end was asked
pub record Settlement : Type 0 where
  pub end : EndId
  pub counts : Settled
  pub reason : Option Reason

-- the control plane, between two events
pub record Control : Type 0 where
  -- how many I/O workers there are
  pub workers : ℕ
  pub rows : Rows
  -- how many mailboxes there are: the root's, one for each worker, and one for each object that was made, which is a socket's own and stays empty for a listener and a session
  pub slots : ℕ
  -- what is in each mailbox, oldest first
  pub boxes : ℕ → List Letter
  -- why an end was asked
  pub reasons : EndId → Option Reason
  -- the connect was struck before its end was attached
  pub struck : EndId → Bool
  -- the ends in the order of their attachment
  pub attached : List EndId
  -- at its last try to end this object had output left to write
  pub output_left : ℕ → Bool
  pub names : Register
  -- what each socket has bound and connected, in order
  pub holds : ℕ → List Hold
  -- the sockets in the order of their closing, and the objects in the order of their ending
  pub closed : List ObjId
  pub ended : List ObjId
  pub settlements : List Settlement

-- a context at its making
abbrev pub begun : (workers : ℕ) → Control
begun workers = record {
  workers = workers;
  rows = root_alone;
  slots = workers + 1;
  boxes = λ _. [];
  reasons = λ _. None;
  struck = λ _. false;
  attached = [];
  output_left = λ _. false;
  names = no_names;
  holds = λ _. [];
  closed = [];
  ended = [];
  settlements = [];
}

-- the function with another value at this number
abbrev pub with_value : {X : Type 0} → ℕ → X → (ℕ → X) → ℕ → X
with_value n x f m = if m == n then x else f m

abbrev pub same_side : Bool → Bool → Bool
same_side true b = b
same_side false b = not b

-- the two are one end
abbrev pub is_end : EndId → EndId → Bool
is_end d e = d.pair.0 == e.pair.0 && same_side d.a e.a

-- the function with another value at this end
abbrev pub with_end : {X : Type 0} → EndId → X → (EndId → X) → EndId → X
with_end e x f d = if is_end d e then x else f d

-- the id of this number, and of an end
abbrev pub id : ℕ → ObjId
id n = record { 0 = n }

abbrev pub end_of : ℕ → Bool → EndId
end_of k a = record { pair = record { 0 = k }; a = a }

-- where an end is, and whose it is
abbrev pub place_of : Control → EndId → Place
place_of c e = end_place (pair c.rows e.pair.0) e.a

abbrev pub owner_of : Control → EndId → ℕ
owner_of c e = end_owner (pair c.rows e.pair.0) e.a

-- the next object's number, and the next pair's
abbrev pub next_object : Control → ℕ
next_object c = length c.rows.objects

abbrev pub next_pair : Control → ℕ
next_pair c = length c.rows.pairs

-- a command is put into the mailbox of the object that it is for
abbrev pub put : ℕ → Word → Control → Control
put to word c =
    let slot : ℕ = (obj c.rows to).slot in
    record c { boxes = with_value slot (c.boxes slot ++ record { to = id to; word = word } ∷ []) c.boxes }

-- this happens between an object and its owner
abbrev pub link : LinkEvent → ℕ → Control → Control
link event i c = record c { rows = with_object i (link_after event (obj c.rows i)) c.rows }

-- an object is made, and a mailbox with it; a pair's number is drawn
abbrev pub makes : Row → Control → Control
makes row c = record c { rows = record c.rows { objects = c.rows.objects ++ row ∷ [] }; slots = c.slots + 1 }

abbrev pub draws : (a_owner b_owner : ℕ) → Control → Control
draws a_owner b_owner c =
    record c { rows = record c.rows { pairs = c.rows.pairs ++ record { a_owner = a_owner; b_owner = b_owner; a = Unmade; b = Unmade } ∷ [] } }

-- an object that lives and was not told is told to end, where that is wanted; a socket is told by its Reap alone
abbrev pub tell_where : (wanted : Bool) → ℕ → Control → Control
tell_where wanted child c =
    if wanted && link_may IsTold (obj c.rows child) then put child Term (link IsTold child c) else c

-- of the first n objects, each noted child of this one is told, by number
abbrev pub tell_children : (n : ℕ) → (owner : ℕ) → Control → Control
tell_children zero owner c = c
tell_children (suc n) owner c =
    let before : Control = tell_children n owner c in
    tell_where (is_owner owner (obj before.rows n).owner && (obj before.rows n).noted) n before

-- of the first n objects, each socket that is not closed gets a Stop, by number
abbrev pub stop_sockets : (n : ℕ) → Control → Control
stop_sockets zero c = c
stop_sockets (suc n) c =
    let before : Control = stop_sockets n c in
    if link_may StopPut (obj before.rows n) then put n Stop (link StopPut n before) else before

-- an end tells the other end what its event wants told
abbrev pub tell_other : EndCommands → EndId → Control → Control
tell_other Nothing e c = c
tell_other TermAndSeal e c = put (owner_of c (other_end e)) (PipeTerm (other_end e)) c
tell_other Ack e c = put (owner_of c (other_end e)) (PipeTermAck (other_end e)) c
tell_other Settle e c = c
tell_other SettleAndAck e c = put (owner_of c (other_end e)) (PipeTermAck (other_end e)) c

-- what is to be done at an event of an end, and the reason that it then has
abbrev pub commands_in : EndEvent → Place → EndCommands
commands_in event Unmade = Nothing
commands_in event Away = Nothing
commands_in event (At state) = commands_of (cell event state)

abbrev pub reason_in : EndEvent → Place → Option Reason → Option Reason
reason_in event Unmade reason = reason
reason_in event Away reason = reason
reason_in event (At state) reason = reason_after event (record { state = state; reason = reason })

-- an end there has met its delimiter, and was asked for no reason
abbrev pub met_in : Place → Option Reason → Bool
met_in Unmade reason = false
met_in Away reason = false
met_in (At state) reason = has_met state reason

-- a pair after an event of this end
abbrev pub moved : PairEvent → EndId → Control → Control
moved event e c = record c { rows = with_pair e.pair.0 (pair_after event e.a (pair c.rows e.pair.0)) c.rows }

-- an event of the table of an end's life
abbrev pub happens : EndEvent → EndId → Control → Control
happens event e c =
    tell_other (commands_in event (place_of c e)) e
    (record (moved (Happens event) e c) { reasons = with_end e (reason_in event (place_of c e) (c.reasons e)) c.reasons })

-- an end that is there is asked
abbrev pub ask : Reason → (delay : Bool) → EndId → Control → Control
ask reason delay e c = if is_here (place_of c e) then happens (Asked reason delay) e c else c

-- these ends are asked, in this order
abbrev pub ask_all : Reason → (delay : Bool) → List EndId → Control → Control
ask_all reason delay [] c = c
ask_all reason delay (e ∷ es) c = ask_all reason delay es (ask reason delay e c)

-- an end is attached: with its pair's making, or with its bind
abbrev pub attach : PairEvent → EndId → Control → Control
attach event e c = record (moved event e c) { attached = c.attached ++ e ∷ [] }

-- a pair is made: this end is attached, and the other's bind is put
abbrev pub open_pair : EndId → (bind : Word) → Control → Control
open_pair e bind c = let now : Control = attach Opens e c in put (owner_of now (other_end e)) bind now

-- an end that was just attached is asked at once, where its kind refuses it, its owner was asked, or its connect was struck
abbrev pub greet : Attached → EndId → Control → Control
greet Yes e c = if was_asked (obj c.rows (owner_of c e)).stage then ask Closed false e c else (if c.struck e then ask Closed false e c else c)
greet IsBadId e c = ask BadId false e c
greet IsSecond e c = ask Second false e c

-- the ends of an object, in the order of their attachment
abbrev pub ends_of : ℕ → Control → List EndId
ends_of i c = filter (λ e. owner_of c e == i) c.attached

-- an object that has ended tells its owner
abbrev pub tell_owner : Option ℕ → ℕ → Control → Control
tell_owner None i c = c
tell_owner (Some owner) i c = put owner (TermAck (id i)) c

abbrev pub finish : ℕ → Control → Control
finish i c =
    tell_owner (obj c.rows i).owner i
    (record c { rows = with_object i (record (obj c.rows i) { stage = Finished }) c.rows; ended = c.ended ++ id i ∷ [] })

-- an object that can end does so, but for a session with output left to write
abbrev pub try_end : ℕ → (left : Bool) → Control → Control
try_end i left c =
    let now : Control = record c { output_left = with_value i left c.output_left } in
    if may_end c.rows i then (if left then now else finish i now) else now
