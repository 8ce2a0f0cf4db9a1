-- The Plug of a listener or a connecting session comes to it: its holder takes it in, with its end if it has one (own choice, after libzmq's `own_t` and `session_base_t`).
use Rattle.std.specs.Prelude.{◌≡◌, ◌≤◌, ◌∷◌, [], ℕ, true, false, List, Option, Some, None}
use Rattle.zq_base.specs.Ends.{other_end}
use Rattle.zq_base.specs.declared.attached.Attached.TheVariants.{Yes}
use Rattle.zq_base.specs.declared.endpoint.Address.{Address}
use Rattle.zq_base.specs.declared.ids.EndId.{EndId}
use Rattle.zq_base.specs.declared.ids.ObjId.{ObjId}
use Rattle.spec_control.specs.declared.entry.Joining.{Joining}
use Rattle.spec_control.specs.declared.letter.Word.TheVariants.{Plug}
use Rattle.spec_control.specs.PairPhase.{BindCame}
use Rattle.spec_control.specs.Row.{PlugComes, is_socket, link_may}
use Rattle.spec_control.specs.Rows.{obj}
use Rattle.spec_control.specs.Stage.{has_ended}
use Rattle.spec_control.specs.Control.{Control, attach, greet, link}
use Rattle.control_laws.specs.Room.{to_come}
use Rattle.desk.specs.declared.halves.Halves.{Halves}
use Rattle.desk.specs.declared.halves.NamedHalves.{NamedHalves}
use Rattle.desk.specs.declared.load.Load.{Load}
use Rattle.desk.specs.declared.load.Load.TheVariants.{Halves as IsHalves, Plug as IsPlug, Writer, Ends}
use Rattle.desk.specs.Holding.{Begins, HearsMore, Holding, IsPlugged, JoinsBy, held_optional, joins_optional, states_optional, writes_optional}
use Rattle.desk.specs.Heard.{plug_by}
use Rattle.desk.specs.Joins.{KeepsObjects}
use Rattle.desk.specs.Lent.{HasAll, here_ends}
use Rattle.desk.specs.Load.{AreHalvesOf}
use Rattle.ctl_state.specs.declared.state.State.{State}
use Rattle.ctl_state.specs.Boxes.{mail_at}
use Rattle.ctl_state.specs.Stands.{Stands}
use Rattle.ctl_moves.specs.Turning.{PutsLoaded, TurnsOnce}
use Rattle.ctl_moves.specs.Attaching.{IsOnItsWay, KeepsPlaces}

-- a listener or a session has its Plug
abbrev pub plugged : ℕ → Control → Control
plugged at c = link PlugComes at c

-- and a session its end
abbrev pub end_plugged : ℕ → EndId → Control → Control
end_plugged at e c = attach BindCame e (plugged at c)

-- what its Plug does, where no kind refuses its end
abbrev pub taken_in : ℕ → Option EndId → Control → Control
taken_in at None c = plugged at c
taken_in at (Some e) c = greet Yes e (end_plugged at e c)

-- a Plug may come to a listener or a session, which nobody has yet, and of which no end is there
pub record PlugsAt {N : Type 0} (c : Control) (h : Holding N) (at : ℕ) : Type 0 where
  pub comes : link_may PlugComes (obj c.rows at) ≡ true
  pub no_socket : is_socket (obj c.rows at).kind ≡ false
  pub lives : has_ended (obj c.rows at).stage ≡ false
  pub free : h.holds at ≡ false
  pub none : here_ends c.rows.pairs c.attached at ≡ []

-- and so what is kept says
pub record MayTakeIn {L N : Type 0} (s : State L) (h : Holding N) (at : ℕ) : Type 0 where
  pub control : Control
  pub stands : Stands s control
  pub plugs : PlugsAt control h at

module _ {N : Type 0} (names : EndId → Option N) where
  -- an end joined with the names of its pipes, and no kind refused it
  pub record JoinsPlugged (e : EndId) (joined : List (Joining N)) : Type 0 where
    pub written : N
    pub read : N
    pub one : joined ≡ record { end = e; peer = []; written = written; read = read; answer = Yes; met = false } ∷ []
    pub writes : names e ≡ Some written
    pub reads : names (other_end e) ≡ Some read

  -- the end that came did, and no other
  abbrev pub JoinsWith : Option EndId → List (Joining N) → Type 0
  JoinsWith None joined = joined ≡ []
  JoinsWith (Some e) joined = JoinsPlugged e joined

module _ {N O I : Type 0} where
  -- a load is a listener's address
  abbrev pub BringsAddress : Option (Load N O I) → Type 0
  BringsAddress (Some (IsHalves h)) = ⊥
  BringsAddress (Some (IsPlug address None)) = Unit {0}
  BringsAddress (Some (IsPlug address (Some h))) = ⊥
  BringsAddress (Some (Writer o)) = ⊥
  BringsAddress (Some (Ends p)) = ⊥
  BringsAddress None = ⊥

  -- or a connecting session's, with the halves of its end
  abbrev pub BringsBoth : Option (Load N O I) → Type 0
  BringsBoth (Some (IsHalves h)) = ⊥
  BringsBoth (Some (IsPlug address None)) = ⊥
  BringsBoth (Some (IsPlug address (Some h))) = Unit {0}
  BringsBoth (Some (Writer o)) = ⊥
  BringsBoth (Some (Ends p)) = ⊥
  BringsBoth None = ⊥

  -- a listener comes with its address
  pub record PlugsListener (c : Control) (h : Holding N) (at : ℕ) (load : Option (Load N O I)) : Type 0 where
    pub address : Address
    pub brings : load ≡ Some (IsPlug address None)
    pub plugs : PlugsAt c h at

module _ {N O I : Type 0} (out_name : O → N) (in_name : I → N) where
  -- the holder took an object in with the end that came, which is Active and has its writing half
  pub record HasTakenIn (at : ℕ) (end : Option (EndId × Halves O I)) (h k : Holding N) : Type 0 where
    pub held : IsPlugged at (held_optional out_name in_name end) h k
    pub begins : Begins (states_optional end) h k
    pub came : JoinsBy (joins_optional out_name in_name end) h k
    pub writing : (e : EndId) → k.writes e ≡ writes_optional end e (h.writes e)

  -- a connecting session with its address and the halves of its end, which is on its way, with room for what may still come of it
  pub record PlugsSession (names : EndId → Option N) (c : Control) (s : State (Load N O I)) (h : Holding N) (at : ℕ) (e : EndId) (load : Option (Load N O I)) : Type 0 where
    pub address : Address
    pub half : NamedHalves N O I
    pub brings : load ≡ Some (IsPlug address (Some half))
    pub are : AreHalvesOf out_name in_name names e half
    pub plugs : PlugsAt c h at
    pub way : IsOnItsWay c s at e
    pub room : (m : ℕ) → to_come (end_plugged at e c) m ≤ (mail_at s.boxes m).spare

  -- what a Plug needs that comes with its load
  abbrev pub PlugsWith : (names : EndId → Option N) → Control → State (Load N O I) → Holding N → (at : ℕ) → Option EndId → Option (Load N O I) → Type 0
  PlugsWith names c s h at None load = PlugsListener c h at load
  PlugsWith names c s h at (Some e) load = PlugsSession names c s h at e load

  -- a Plug came, and its holder has what the control state says
  pub record MayPlug (s : State (Load N O I)) (h : Holding N) (at : ℕ) (end : Option EndId) (load : Option (Load N O I)) : Type 0 where
    pub control : Control
    pub names : EndId → Option N
    pub stands : Stands s control
    pub has : HasAll names control h
    pub comes : PlugsWith names control s h at end load

  -- the object was taken in with the end that came, which was asked at once where its connect was struck; its holder was told of this end's changes alone, and of the object its socket's kind and its own options
  pub record TakesIn (names : EndId → Option N) (c : Control) (at : ObjId) (end : Option EndId) (joined : List (Joining N)) (s t : State (Load N O I)) (h k : Holding N) : Type 0 where
    pub joins : JoinsWith names end joined
    pub stands : Stands t (taken_in at.0 end c)
    pub has : HasAll names (taken_in at.0 end c) k
    pub puts : PutsLoaded out_name in_name names s.boxes t.boxes
    pub places : KeepsPlaces (Plug end) at.0 s.objects.lists t.objects.lists
    pub turned : TurnsOnce c (taken_in at.0 end c) h k
    pub came : JoinsBy joined h k
    pub heard : HearsMore (plug_by at c.rows) h k
    pub objects : KeepsObjects c (taken_in at.0 end c) h k
