-- The ends of an object are asked with its holder, one after the other (own choice, after libzmq's `pipe_t`).
use Rattle.std.specs.Prelude.{◌≡◌, ◌≢◌, ◌<◌, ◌≤◌, ◌+◌, ◌++◌, ◌∷◌, [], ℕ, Bool, true, List, Option, length}
use Rattle.std.specs.List.{list_any}
use Rattle.zq_base.specs.declared.ids.EndId.{EndId}
use Rattle.spec_control.specs.Place.{is_here}
use Rattle.spec_control.specs.declared.end.EndState.{EndState}
use Rattle.spec_control.specs.declared.end.Reason.{Reason}
use Rattle.spec_control.specs.Control.{Control, is_end, ask, owner_of, place_of}
use Rattle.control_laws.specs.Move.{Move, MovesTo}
use Rattle.control_laws.specs.Room.{to_come}
use Rattle.desk.specs.declared.load.Load.{Load}
use Rattle.desk.specs.Holding.{Holding}
use Rattle.desk.specs.Lent.{HasAll}
use Rattle.ctl_state.specs.declared.state.State.{State}
use Rattle.ctl_state.specs.Boxes.{mail_at}
use Rattle.ctl_state.specs.Stands.{Stands}
use Rattle.ctl_moves.specs.Turning.{turn_of}

-- wherever these moves of one event lead, there is room in each mailbox for all that may still come
abbrev pub HasRoomOver : {L : Type 0} → List Move → Control → State L → Type 0
HasRoomOver own c s = (d : Control) → MovesTo own c d → (m : ℕ) → length (d.boxes m) + to_come d m ≤ (mail_at s.boxes m).spare + length (c.boxes m)

-- the changes of state of these ends as they are asked, in this order
abbrev pub asked_turns : Reason → (delay : Bool) → List EndId → Control → List (EndId × EndState)
asked_turns reason delay [] c = []
asked_turns reason delay (e ∷ es) c = turn_of e c (ask reason delay e c) ++ asked_turns reason delay es (ask reason delay e c)

module _ {N O I : Type 0} where
  -- an attached end of an object whose holder is lent may be asked, if it is there
  pub record MayAskOne (s : State (Load N O I)) (h : Holding N) (e : EndId) : Type 0 where
    pub control : Control
    pub names : EndId → Option N
    pub stands : Stands s control
    pub has : HasAll names control h
    pub lent : h.holds (owner_of control e) ≡ true
    pub within : e.pair.0 < length control.rows.pairs
    pub listed : list_any (is_end e) control.attached ≡ true
    pub room : (m : ℕ) → to_come control m ≤ (mail_at s.boxes m).spare

  -- and so may all ends of an object; the root has none
  pub record MayAskAll (s : State (Load N O I)) (h : Holding N) (at : ℕ) : Type 0 where
    pub control : Control
    pub names : EndId → Option N
    pub stands : Stands s control
    pub has : HasAll names control h
    pub lent : at ≢ 0 → h.holds at ≡ true
    pub rootless : (e : EndId) → is_here (place_of control e) ≡ true → owner_of control e ≢ 0
    pub room : HasRoomOver [] control s
