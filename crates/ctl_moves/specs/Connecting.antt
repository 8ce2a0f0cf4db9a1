-- A connect to a name that a socket holds makes a pair (zmq_connect(3), zmq_inproc(7)).
use Rattle.std.specs.Prelude.{◌≡◌, ◌≤◌, ◌<◌, ◌+◌, ◌^◌, ◌==◌, ◌∷◌, [], ℕ, true, false, cond, Option, Some, None, length}
use Rattle.zq_base.specs.declared.attached.Attached.{Attached}
use Rattle.zq_base.specs.declared.endpoint.Endpoint.{Endpoint}
use Rattle.zq_base.specs.declared.ids.PairId.{PairId}
use Rattle.spec_control.specs.declared.letter.Word.TheVariants.{PipeBind}
use Rattle.spec_control.specs.Hold.{Joined as IsJoined}
use Rattle.spec_control.specs.Place.{Unmade, At}
use Rattle.spec_control.specs.Stage.{was_asked}
use Rattle.spec_control.specs.Rows.{obj}
use Rattle.spec_control.specs.After.{with_hold}
use Rattle.spec_control.specs.Control.{Control, draws, end_of, greet, next_pair, open_pair, place_of}
use Rattle.zq_base.specs.declared.ids.EndId.{EndId}
use Rattle.desk.specs.declared.load.Load.{Load}
use Rattle.desk.specs.Holding.{HearsNone, Holding, JoinsBy, MayRefuse}
use Rattle.desk.specs.Lent.{HasAll}
use Rattle.desk.specs.Turns.{TurnsBy, turn_at}
use Rattle.ctl_moves.specs.Turning.{PutsLoaded}
use Rattle.ctl_state.specs.declared.state.State.{State}
use Rattle.ctl_state.specs.Listed.{with_room}
use Rattle.ctl_state.specs.Lists.{belongings_at, with_holds}
use Rattle.ctl_state.specs.Parts.{on_lists}
use Rattle.ctl_state.specs.Stands.{Stands}
use Rattle.ctl_moves.specs.declared.joining_ends.Names.{Names}
use Rattle.ctl_moves.specs.declared.notes.Notes.{Notes}
use Rattle.ctl_moves.specs.declared.owners.Owners.{Owners}
use Rattle.ctl_moves.specs.Joined.{Gets}
use Rattle.ctl_moves.specs.JoinNoting.{joins_named, pipes_named}
use Rattle.ctl_moves.specs.Papers.{HasMarks}
use Rattle.ctl_moves.specs.Room.{HavePlaces, with_commands, with_drawn}

module _ {L : Type 0} where
  -- room for a hold more
  abbrev pub with_hold_room : ℕ → State L → State L
  with_hold_room i s = on_lists (with_holds (with_room 1) i) s

  -- a pair's number was drawn for a connect, with all its room
  pub record HasDrawnHeld (s : State L) (o : Owners) : Type 0 where
    pub before : State L
    pub places : HavePlaces before o
    pub is : s ≡ with_drawn true o (with_hold_room o.first.0 before)

-- the control state once the connecting socket's pair is made
abbrev pub connected_now : Control → Owners → Endpoint → ℕ → Attached → Control
connected_now c o at k answer =
    greet answer (end_of k true) (open_pair (end_of k true) (PipeBind (end_of k false) (obj c.rows o.first.0).options.id) (draws o.first.0 o.last.0 (with_hold o.first.0 (IsJoined at k None) c)))

module _ {N O I : Type 0} where
  -- neither socket was asked, the first one's holder is lent and has what the control state says, and there is a waker for each mailbox
  pub record MayConnect (s : State (Load N O I)) (h : Holding N) (o : Owners) (wakers : ℕ) : Type 0 where
    pub control : Control
    pub names : EndId → Option N
    pub stands : Stands s control
    pub has : HasAll names control h
    pub lent : h.holds o.first.0 ≡ true
    pub places : HavePlaces s o
    pub last_slot : (obj control.rows o.last.0).slot ≡ o.last_slot.0
    pub unasked : was_asked (obj control.rows o.first.0).stage ≡ false
    pub last_unasked : was_asked (obj control.rows o.last.0).stage ≡ false
    pub first_marks : HasMarks (obj control.rows o.first.0)
    pub last_marks : HasMarks (obj control.rows o.last.0)
    pub few_objects : length control.rows.objects < 2 ^ 62
    pub few_pairs : length control.rows.pairs + 1 < 2 ^ 30
    pub wakers_there : length s.boxes ≤ wakers

  -- the pair is made: the first end is the connecting socket's, and it is noted with the names that its holder has
  pub record Connects (out_name : O → N) (in_name : I → N) (c : Control) (o : Owners) (at : Endpoint) (pair : PairId) (notes : Notes N) (s t : State (Load N O I)) (h k : Holding N) : Type 0 where
    pub number : pair.0 ≡ next_pair c
    pub answer : Attached
    pub told : Names N
    pub refuses : MayRefuse (h.kind o.first.0) answer
    pub stands : Stands t (connected_now c o at pair.0 answer)
    pub joined : notes.joined.items ≡ joins_named (end_of pair.0 true) (obj c.rows o.last.0).options.id answer told ∷ []
    pub opened : notes.opened.items ≡ pipes_named (end_of pair.0 true) told
    pub gets : Gets (next_pair c) o.first.0 (record { end = end_of pair.0 true; written = told.written; read = told.read } ∷ []) h k
    pub puts : (names : EndId → Option N) → names (end_of pair.0 false) ≡ Some told.read → names (end_of pair.0 true) ≡ Some told.written → PutsLoaded out_name in_name names (with_commands o s).boxes t.boxes
    pub mine : place_of (connected_now c o at pair.0 answer) (end_of pair.0 true) ≡ At (k.state (end_of pair.0 true))
    pub turned : TurnsBy (turn_at (end_of pair.0 true) Unmade (place_of (connected_now c o at pair.0 answer) (end_of pair.0 true))) h k
    pub came : JoinsBy notes.joined.items h k
    pub heard : HearsNone h k
    -- an end more fits into the other socket's list
    pub places : (i : ℕ) → (belongings_at s.objects.lists i).ends.spare + cond (o.last.0 == i) 1 0 ≤ (belongings_at t.objects.lists i).ends.spare
