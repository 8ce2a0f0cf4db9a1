-- What happens to an end with its holder, in one event of its life (own choice, after libzmq's `pipe_t`).
use Rattle.std.specs.Prelude.{◌≡◌, ◌<◌, ◌+◌, ◌++◌, ◌∷◌, [], ◌&&◌, ℕ, Bool, true, false, List, Option, Some, None, All, length, if◌then◌else◌}
use Rattle.std.specs.List.{list_any}
use Rattle.zq_base.specs.Ends.{other_end}
use Rattle.zq_base.specs.declared.ids.EndId.{EndId}
use Rattle.mailbox.specs.Mail.{Mail}
use Rattle.spec_control.specs.declared.end.EndState.{EndState}
use Rattle.spec_control.specs.declared.end.EndEvent.{EndEvent}
use Rattle.spec_control.specs.declared.end.EndEvent.TheVariants.{DelimiterSeen}
use Rattle.spec_control.specs.declared.end.EndCommands.{EndCommands}
use Rattle.spec_control.specs.declared.end.EndCommands.TheVariants.{Nothing, TermAndSeal, Ack, Settle, SettleAndAck}
use Rattle.spec_control.specs.EndLife.{comes}
use Rattle.spec_control.specs.Place.{At}
use Rattle.spec_control.specs.Rows.{obj}
use Rattle.spec_control.specs.Control.{Control, commands_in, is_end, owner_of, place_of}
use Rattle.desk.specs.declared.load.Load.{Load}
use Rattle.desk.specs.declared.load.Load.TheVariants.{Writer}
use Rattle.desk.specs.Holding.{Holding, HearsNone, HoldsNow, has_end, written_in}
use Rattle.desk.specs.Lent.{HasAll}
use Rattle.desk.specs.Load.{Carries, brings_ends}
use Rattle.desk.specs.Turns.{TurnsBy, HasTurned, turn_at}
use Rattle.control_laws.specs.AttachedOnce.{AreOnce}
use Rattle.ctl_state.specs.declared.command.Command.{Command}
use Rattle.ctl_state.specs.declared.state.State.{State}
use Rattle.ctl_state.specs.Boxes.{mail_at}
use Rattle.ctl_state.specs.Stands.{Stands, tells}

-- the end gives its writing half away for the other end
abbrev pub yields : EndCommands → Bool
yields Nothing = false
yields TermAndSeal = false
yields Ack = true
yields Settle = false
yields SettleAndAck = true

-- the end has to have it still: to seal its pipe, or to give it away
abbrev pub needs_writer : EndCommands → Bool
needs_writer Nothing = false
needs_writer TermAndSeal = true
needs_writer Ack = true
needs_writer Settle = false
needs_writer SettleAndAck = true

-- the end whose pipe is to be sealed
abbrev pub seals_for : EndCommands → EndId → List EndId
seals_for Nothing e = []
seals_for TermAndSeal e = e ∷ []
seals_for Ack e = []
seals_for Settle e = []
seals_for SettleAndAck e = []

module _ {N : Type 0} where
  -- the pipe of this end is to be sealed, or none, no change of state was told, and no end joined
  pub record SealsFor (commands : EndCommands) (e : EndId) (old new : Holding N) : Type 0 where
    pub states : (i : ℕ) (d : EndId) → has_end d (new.ends i) ≡ true → new.state d ≡ old.state d
    pub turns : new.turns ≡ old.turns
    pub sealed : new.sealed ≡ old.sealed ++ seals_for commands e
    pub joined : new.joined ≡ old.joined

  -- an object's ends are as before, and so are the writing halves, but for that of this end where it is given away
  pub record Turned (o : ℕ) (e : EndId) (yielded : Bool) (old new : Holding N) : Type 0 where
    pub now : HoldsNow o (old.ends o) old new
    pub writers : (d : EndId) → new.writes d ≡ (if yielded && is_end d e then false else old.writes d)

module _ {N O I : Type 0} (out_name : O → N) (in_name : I → N) where
  -- the holder gives nothing, or the writing half of an end
  pub record GivesWriter (o : ℕ) (e : EndId) (load : Option (Load N O I)) (h : Holding N) : Type 0 where
    pub half : O
    pub given : load ≡ Some (Writer half)
    pub name : written_in (h.ends o) e ≡ Some (out_name half)

  abbrev pub GivesFor : EndCommands → (o : ℕ) → EndId → Option (Load N O I) → Holding N → Type 0
  GivesFor Nothing o e load h = load ≡ None
  GivesFor TermAndSeal o e load h = load ≡ None
  GivesFor Ack o e load h = GivesWriter o e load h
  GivesFor Settle o e load h = load ≡ None
  GivesFor SettleAndAck o e load h = GivesWriter o e load h

  module _ (names : EndId → Option N) where
    -- a command carries what it is to bring, and no closed socket's ends
    pub record IsLoaded (command : Command (Load N O I)) : Type 0 where
      pub carries : Carries out_name in_name names command.letter.word command.load
      pub no_ends : brings_ends command.letter.word ≡ false

    -- such commands were put behind those that were there, each in room that was kept
    pub record GrowsLoaded (old new : Mail (Command (Load N O I))) : Type 0 where
      pub more : List (Command (Load N O I))
      pub commands : new.commands ≡ old.commands ++ more
      pub loaded : All (λ command. IsLoaded command) more
      pub spare : new.spare + length more ≡ old.spare

    -- the same of each mailbox
    pub record PutsLoaded (old new : List (Mail (Command (Load N O I)))) : Type 0 where
      pub grows : (k : ℕ) → GrowsLoaded (mail_at old k) (mail_at new k)
      pub many : length new ≡ length old

  -- an event may come to an end that a lent holder has, with room for what it tells the other end
  pub record TurnsAt (c : Control) (s : State (Load N O I)) (h : Holding N) (e : EndId) (event : EndEvent) : Type 0 where
    pub lent : h.holds (owner_of c e) ≡ true
    pub within : e.pair.0 < length c.rows.pairs
    pub listed : list_any (is_end e) c.attached ≡ true
    pub state : EndState
    pub there : place_of c e ≡ At state
    pub may_come : comes event state ≡ true
    pub delimiter : event ≡ DelimiterSeen → h.at_delimiter e ≡ true
    pub room : tells (commands_in event (place_of c e)) ≡ true → 0 < (mail_at s.boxes (obj c.rows (owner_of c (other_end e))).slot).spare

  -- and the holder has what the control state says
  pub record MayTurn (s : State (Load N O I)) (h : Holding N) (e : EndId) (event : EndEvent) : Type 0 where
    pub control : Control
    pub names : EndId → Option N
    pub stands : Stands s control
    pub has : HasAll names control h
    pub turns : TurnsAt control s h e event

  -- the state was changed so, with the holder, which was told of these changes of its ends, and commands were put; no end joined, and of objects it was told nothing
  pub record Leads (names : EndId → Option N) (turns : List (EndId × EndState)) (now : Control) (s t : State (Load N O I)) (h k : Holding N) : Type 0 where
    pub stands : Stands t now
    pub has : HasAll names now k
    pub puts : PutsLoaded names s.boxes t.boxes
    pub lists : t.objects.lists ≡ s.objects.lists
    pub holds : (i : ℕ) → k.holds i ≡ h.holds i
    pub kinds : (i : ℕ) → k.kind i ≡ h.kind i
    pub output : (i : ℕ) → k.output_left i ≡ h.output_left i
    pub turned : TurnsBy turns h k
    pub joined : k.joined ≡ h.joined
    pub heard : HearsNone h k

-- where no end was attached twice before, a holder was told of each change of state of an event
abbrev pub TurnsOnce : {N : Type 0} → (was now : Control) → (old new : Holding N) → Type 0
TurnsOnce was now old new = AreOnce was.attached → HasTurned was now old new

-- the change of state of one end
abbrev pub turn_of : EndId → (was now : Control) → List (EndId × EndState)
turn_of e was now = turn_at e (place_of was e) (place_of now e)

-- an end is so far in its life
pub record IsSoFar {L : Type 0} (s : State L) (e : EndId) : Type 0 where
  pub control : Control
  pub stands : Stands s control
  pub state : EndState
  pub there : place_of control e ≡ At state
