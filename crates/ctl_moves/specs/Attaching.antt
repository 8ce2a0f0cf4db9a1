-- The bind of an end comes to its object, with its holder (own choice, after libzmq's `pipe_t` and `socket_base_t`).
use Rattle.std.specs.Prelude.{◌≡◌, ◌≢◌, ◌<◌, ◌≤◌, ◌+◌, ◌^◌, ◌==◌, ◌&&◌, ◌∷◌, [], ℕ, Bool, true, false, cond, List, Option, Some, None, All, length}
use Rattle.zq_base.specs.Ends.{other_end}
use Rattle.zq_base.specs.declared.attached.Attached.{Attached}
use Rattle.zq_base.specs.declared.ids.EndId.{EndId}
use Rattle.zq_base.specs.declared.kind.Kind.{Kind}
use Rattle.spec_control.specs.declared.end.Reason.{Reason}
use Rattle.spec_control.specs.declared.entry.Joining.{Joining}
use Rattle.spec_control.specs.declared.letter.Word.{Word}
use Rattle.spec_control.specs.declared.letter.Word.TheVariants.{Own, Plug, TermReq, Term, TermAck, PipeBind, PipeTerm, PipeTermAck, Stop, Reap}
use Rattle.spec_control.specs.declared.object.ObjKind.TheVariants.{Socket}
use Rattle.spec_control.specs.declared.stage.Use.TheVariants.{Used}
use Rattle.spec_control.specs.PairPhase.{BindCame}
use Rattle.spec_control.specs.declared.end.EndState.TheVariants.{Active}
use Rattle.spec_control.specs.Place.{Away, At}
use Rattle.spec_control.specs.Row.{Row}
use Rattle.spec_control.specs.Rows.{obj}
use Rattle.spec_control.specs.Stage.{has_ended}
use Rattle.spec_control.specs.Control.{Control, ask, attach, greet, is_end, owner_of, place_of}
use Rattle.control_laws.specs.Room.{to_come}
use Rattle.desk.specs.declared.halves.Halves.{Halves}
use Rattle.desk.specs.declared.halves.NamedHalves.{NamedHalves}
use Rattle.desk.specs.declared.load.Load.{Load}
use Rattle.desk.specs.declared.load.Load.TheVariants.{Halves as IsHalves, Plug as IsPlug, Writer, Ends}
use Rattle.desk.specs.Holding.{HearsNone, BeginsActive, Holding, JoinsBy, MayRefuse, Stays}
use Rattle.desk.specs.Turns.{TurnsBy, turn_at}
use Rattle.desk.specs.Lent.{HasAll}
use Rattle.desk.specs.Load.{AreHalvesOf}
use Rattle.ctl_moves.specs.Turning.{PutsLoaded}
use Rattle.ctl_state.specs.declared.belongings.Belongings.{Belongings}
use Rattle.ctl_state.specs.declared.state.State.{State}
use Rattle.ctl_state.specs.Boxes.{mail_at}
use Rattle.ctl_state.specs.Listed.{with_last}
use Rattle.ctl_state.specs.Lists.{belongings_at, with_ends}
use Rattle.ctl_state.specs.Stands.{Stands}

-- an end is asked for this reason, if there is one
abbrev pub asked_for : Option Reason → EndId → Control → Control
asked_for None e c = c
asked_for (Some reason) e c = ask reason false e c

-- a load is the halves of an end
abbrev pub BringsHalves : {N O I : Type 0} → Option (Load N O I) → Type 0
BringsHalves (Some (IsHalves h)) = Unit {0}
BringsHalves (Some (IsPlug address halves)) = ⊥
BringsHalves (Some (Writer o)) = ⊥
BringsHalves (Some (Ends p)) = ⊥
BringsHalves None = ⊥

-- the halves that a load is may join what a holder has
abbrev pub FitsLoad : {N O I : Type 0} → (fits : Halves O I → Type 0) → Option (Load N O I) → Type 0
FitsLoad fits (Some (IsHalves h)) = fits h.halves
FitsLoad fits (Some (IsPlug address None)) = Unit {0}
FitsLoad fits (Some (IsPlug address (Some h))) = fits h.halves
FitsLoad fits (Some (Writer o)) = Unit {0}
FitsLoad fits (Some (Ends p)) = Unit {0}
FitsLoad fits None = Unit {0}

-- the kind that ends of an object join is that of a socket which the reaper does not have
abbrev pub KindFits : Row → Option Kind → Type 0
KindFits o None = Unit {0}
KindFits o (Some kind) = (o.kind ≡ Socket kind) × (o.request ≢ Used)

-- a PipeBind attaches an end, and a Plug takes its object in, with its end if it has one: they may want memory
abbrev pub binds_end : Word → Bool
binds_end (Own child) = false
binds_end (Plug end) = true
binds_end (TermReq child) = false
binds_end Term = false
binds_end (TermAck child) = false
binds_end (PipeBind e peer) = true
binds_end (PipeTerm e) = false
binds_end (PipeTermAck e) = false
binds_end Stop = false
binds_end (Reap socket) = false

-- an end comes to its object by it
abbrev pub brings_end : Word → Bool
brings_end (Own child) = false
brings_end (Plug None) = false
brings_end (Plug (Some e)) = true
brings_end (TermReq child) = false
brings_end Term = false
brings_end (TermAck child) = false
brings_end (PipeBind e peer) = true
brings_end (PipeTerm e) = false
brings_end (PipeTermAck e) = false
brings_end Stop = false
brings_end (Reap socket) = false

-- each list of ends has room as before, but for one place in that of the object that an end came to
abbrev pub KeepsPlaces : Word → ℕ → (old new : List Belongings) → Type 0
KeepsPlaces word to old new = (i : ℕ) → (belongings_at old i).ends.spare ≤ (belongings_at new i).ends.spare + cond (brings_end word && to == i) 1 0

-- an end is on its way to its object, with a place for it in the object's list
pub record IsOnItsWay {L : Type 0} (c : Control) (s : State L) (at : ℕ) (e : EndId) : Type 0 where
  pub owner : owner_of c e ≡ at
  pub away : place_of c e ≡ Away
  pub within : e.pair.0 < length c.rows.pairs
  pub fresh : All (λ d. is_end d e ≡ false) c.attached
  pub few : length c.rows.pairs < 2 ^ 30
  pub place : 0 < (belongings_at s.objects.lists at).ends.spare

module _ {N : Type 0} where
  -- all is as before at a holder
  abbrev pub StaysAll : (old new : Holding N) → Type 0
  StaysAll old new = (o : ℕ) → Stays o old new

  module _ {L : Type 0} where
    -- the bind of an end may come to its object, whose holder is lent, with room for what may still come of the end
    pub record BindsAt (c : Control) (s : State L) (h : Holding N) (at : ℕ) (e : EndId) : Type 0 where
      pub way : IsOnItsWay c s at e
      pub lent : h.holds at ≡ true
      pub lives : has_ended (obj c.rows at).stage ≡ false
      pub room : (m : ℕ) → to_come (attach BindCame e c) m ≤ (mail_at s.boxes m).spare
      pub kind : KindFits (obj c.rows at) (h.kind at)

    -- the end is attached, and its holder has it
    pub record BindsEnd (names : EndId → Option N) (c : Control) (at : ℕ) (e : EndId) (answer : Attached) (s t : State L) (h k : Holding N) : Type 0 where
      pub stands : Stands t (attach BindCame e c)
      pub has : HasAll names (attach BindCame e c) k
      pub refuses : MayRefuse (h.kind at) answer
      pub boxes : t.boxes ≡ s.boxes
      pub lists : t.objects.lists ≡ with_ends (with_last e) at s.objects.lists
      pub holds : (i : ℕ) → k.holds i ≡ h.holds i
      pub kinds : (i : ℕ) → k.kind i ≡ h.kind i
      pub begins : BeginsActive e h k

module _ {N O I : Type 0} (out_name : O → N) (in_name : I → N) where
  -- with halves of the pipes that were named
  pub record MayBind (s : State (Load N O I)) (h : Holding N) (at : ℕ) (e : EndId) (halves : Halves O I) : Type 0 where
    pub control : Control
    pub names : EndId → Option N
    pub stands : Stands s control
    pub has : HasAll names control h
    pub binds : BindsAt control s h at e
    pub written : names e ≡ Some (out_name halves.out)
    pub read : names (other_end e) ≡ Some (in_name halves.input)

  -- what a bind needs that comes with its load
  pub record IsBound (names : EndId → Option N) (c : Control) (s : State (Load N O I)) (h : Holding N) (at : ℕ) (e : EndId) (load : Option (Load N O I)) : Type 0 where
    pub half : NamedHalves N O I
    pub brings : load ≡ Some (IsHalves half)
    pub are : AreHalvesOf out_name in_name names e half
    pub binds : BindsAt c s h at e

  pub record MayComeBound (s : State (Load N O I)) (h : Holding N) (at : ℕ) (e : EndId) (load : Option (Load N O I)) : Type 0 where
    pub control : Control
    pub names : EndId → Option N
    pub stands : Stands s control
    pub has : HasAll names control h
    pub comes : IsBound names control s h at e load

  -- the end joined with the names of its pipes and its kind's answer, and was asked at once where that is wanted
  pub record IsAttached (names : EndId → Option N) (c : Control) (at : ℕ) (e : EndId) (peer : List ℕ) (joined : List (Joining N)) (s t : State (Load N O I)) (h k : Holding N) : Type 0 where
    pub answer : Attached
    pub written : N
    pub read : N
    pub one : joined ≡ record { end = e; peer = peer; written = written; read = read; answer = answer; met = false } ∷ []
    pub writes : names e ≡ Some written
    pub reads : names (other_end e) ≡ Some read
    pub refuses : MayRefuse (h.kind at) answer
    pub stands : Stands t (greet answer e (attach BindCame e c))
    pub has : HasAll names (greet answer e (attach BindCame e c)) k
    pub puts : PutsLoaded out_name in_name names s.boxes t.boxes
    pub lists : t.objects.lists ≡ with_ends (with_last e) at s.objects.lists
    pub turned : TurnsBy (turn_at e (At Active) (place_of (greet answer e (attach BindCame e c)) e)) h k
    pub came : JoinsBy joined h k
    pub heard : HearsNone h k
    pub holds : (i : ℕ) → k.holds i ≡ h.holds i
    pub kinds : (i : ℕ) → k.kind i ≡ h.kind i
