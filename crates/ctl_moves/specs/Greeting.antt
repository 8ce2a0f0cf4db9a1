-- A pair's first end is welcomed or asked at once (own choice, after libzmq's `pipe_t`).
use Rattle.std.specs.Prelude.{◌≡◌, ◌<◌, ◌≤◌, ◌+◌, ℕ, true, false, Option, Some, None}
use Rattle.zq_base.specs.Ends.{other_end}
use Rattle.zq_base.specs.declared.attached.Attached.{Attached}
use Rattle.zq_base.specs.declared.attached.Attached.TheVariants.{Yes, BadId as IsBadId, Second as IsSecond}
use Rattle.zq_base.specs.declared.ids.EndId.{EndId}
use Rattle.spec_control.specs.declared.end.Reason.{Reason}
use Rattle.spec_control.specs.declared.end.Reason.TheVariants.{BadId, Second}
use Rattle.spec_control.specs.declared.end.EndState.TheVariants.{Active}
use Rattle.spec_control.specs.Place.{Place, At}
use Rattle.spec_control.specs.Stage.{was_asked}
use Rattle.spec_control.specs.Rows.{obj}
use Rattle.spec_control.specs.Control.{Control, is_end, owner_of, place_of}
use Rattle.desk.specs.declared.load.Load.{Load}
use Rattle.desk.specs.Holding.{HearsNone, Holding, Stays, has_end}
use Rattle.desk.specs.Turns.{TurnsBy, turn_at}
use Rattle.ctl_moves.specs.Turning.{PutsLoaded}
use Rattle.ctl_state.specs.declared.state.State.{State}
use Rattle.ctl_state.specs.Boxes.{mail_at}
use Rattle.ctl_state.specs.Stands.{Stands}

-- why an end is asked that its kind refused
abbrev pub refusal : Attached → Option Reason
refusal Yes = None
refusal IsBadId = Some BadId
refusal IsSecond = Some Second

module _ {N : Type 0} where
  -- of its ends one went from one place to another, and it was told so; none joined, and of objects it was told nothing
  pub record MovesOne (e : EndId) (was now : Place) (h k : Holding N) : Type 0 where
    pub mine : now ≡ At (k.state e)
    pub others : (i : ℕ) (d : EndId) → has_end d (k.ends i) ≡ true → is_end d e ≡ false → k.state d ≡ h.state d
    pub turned : TurnsBy (turn_at e was now) h k
    pub joined : k.joined ≡ h.joined
    pub heard : HearsNone h k

module _ {N O I : Type 0} where
  -- an end was just attached, its owner was not asked, its connect was not struck, and there is room for its asking at the other end's owner
  pub record MayGreet (s : State (Load N O I)) (h : Holding N) (o : ℕ) (first : EndId) : Type 0 where
    pub control : Control
    pub stands : Stands s control
    pub there : place_of control first ≡ At Active
    pub unasked : was_asked (obj control.rows (owner_of control first)).stage ≡ false
    pub unstruck : control.struck first ≡ false
    pub has : has_end first (h.ends o) ≡ true
    pub writes : h.writes first ≡ true
    pub state : h.state first ≡ Active
    pub room : 0 < (mail_at s.boxes (obj control.rows (owner_of control (other_end first))).slot).spare

  -- the state was changed so with the holder, which has the same ends and was told of the change of this one, and a PipeTerm was put at the most
  pub record Asks (out_name : O → N) (in_name : I → N) (was now : Control) (o : ℕ) (first : EndId) (s t : State (Load N O I)) (h k : Holding N) : Type 0 where
    pub stands : Stands t now
    pub stays : Stays o h k
    pub puts : (names : EndId → Option N) → PutsLoaded out_name in_name names s.boxes t.boxes
    pub spare : (m : ℕ) → (mail_at s.boxes m).spare ≤ (mail_at t.boxes m).spare + 1
    pub lists : t.objects.lists ≡ s.objects.lists
    pub moves : MovesOne first (place_of was first) (place_of now first) h k
