-- What an object needs to hear a command with its holder, and what it has done then (own choice).
use Rattle.std.specs.Prelude.{◌≡◌, ◌≢◌, ◌<◌, ◌&&◌, ◌==◌, cond, ℕ, Bool, true, false, List, [], ◌∷◌, Option, Some, None, All, map}
use Rattle.zq_base.specs.Ends.{other_end}
use Rattle.zq_base.specs.declared.ids.EndId.{EndId}
use Rattle.spec_control.specs.declared.end.EndEvent.TheVariants.{TermCame, AckCame}
use Rattle.spec_control.specs.declared.letter.Letter.{Letter}
use Rattle.spec_control.specs.declared.letter.Word.{Word}
use Rattle.spec_control.specs.declared.letter.Word.TheVariants.{Own, Plug, TermReq, Term, TermAck, PipeBind, PipeTerm, PipeTermAck, Stop, Reap}
use Rattle.spec_control.specs.declared.entry.Answered.{Answered}
use Rattle.spec_control.specs.Rows.{obj}
use Rattle.spec_control.specs.Control.{Control, commands_in, happens, owner_of, place_of, try_end}
use Rattle.spec_control.specs.Place.{is_here}
use Rattle.spec_control.specs.Row.{TermComes, link_may}
use Rattle.control_laws.specs.Move.{LinkMoves}
use Rattle.ctl_moves.specs.Asking.{HasRoomOver}
use Rattle.spec_control.specs.After.{answers_in, processed, settle}
use Rattle.spec_control.specs.ControlRun.{Joins, word_joins, MayAnswerAll, Settles, IsSettled, is_between}
use Rattle.spec_control.specs.declared.entry.Joining.{Joining}
use Rattle.zq_base.specs.declared.ids.Settled.{Settled}
use Rattle.desk.specs.declared.load.Load.{Load}
use Rattle.desk.specs.declared.load.Load.TheVariants.{Halves as BringsHalves, Plug as BringsPlug, Writer, Ends}
use Rattle.desk.specs.declared.given.Parting.{Parting}
use Rattle.desk.specs.Holding.{HearsMore, Holding, JoinsBy}
use Rattle.desk.specs.Joins.{KeepsObjects, come_by}
use Rattle.desk.specs.Lent.{HasAll}
use Rattle.desk.specs.Load.{IsNamed}
use Rattle.ctl_moves.specs.Reaping.{ReapsAt}
use Rattle.ctl_state.specs.declared.state.State.{State}
use Rattle.ctl_state.specs.Stands.{Stands, tells}
use Rattle.ctl_state.specs.Boxes.{mail_at}
use Rattle.ctl_moves.specs.Turning.{PutsLoaded, TurnsAt, TurnsOnce}
use Rattle.ctl_moves.specs.Settling.{SettlesAt}
use Rattle.ctl_moves.specs.Bare.{Hears}
use Rattle.ctl_moves.specs.Attaching.{IsBound, KeepsPlaces}
use Rattle.ctl_moves.specs.Plugging.{PlugsWith}
use Rattle.desk.specs.Heard.{heard_by}
use Rattle.desk.specs.Output.{has_left, left_by}
use Rattle.ctl_moves.specs.Striking.{Led}

-- the command takes its object in, which nobody has before
abbrev pub is_plug : Word → Bool
is_plug (Own child) = false
is_plug (Plug end) = true
is_plug (TermReq child) = false
is_plug Term = false
is_plug (TermAck child) = false
is_plug (PipeBind e peer) = false
is_plug (PipeTerm e) = false
is_plug (PipeTermAck e) = false
is_plug Stop = false
is_plug (Reap socket) = false

-- the commands that bring nothing
abbrev pub is_bare : Word → Bool
is_bare (Own child) = true
is_bare (Plug end) = false
is_bare (TermReq child) = true
is_bare Term = true
is_bare (TermAck child) = true
is_bare (PipeBind e peer) = false
is_bare (PipeTerm e) = true
is_bare (PipeTermAck e) = false
is_bare Stop = true
is_bare (Reap socket) = false

-- a load is a writing half
abbrev pub BringsWriter : {N O I : Type 0} → Option (Load N O I) → Type 0
BringsWriter (Some (BringsHalves h)) = ⊥
BringsWriter (Some (BringsPlug address halves)) = ⊥
BringsWriter (Some (Writer o)) = Unit {0}
BringsWriter (Some (Ends p)) = ⊥
BringsWriter None = ⊥

-- a load is the ends of a closed socket
abbrev pub BringsParting : {N O I : Type 0} → Option (Load N O I) → Type 0
BringsParting (Some (BringsHalves h)) = ⊥
BringsParting (Some (BringsPlug address halves)) = ⊥
BringsParting (Some (Writer o)) = ⊥
BringsParting (Some (Ends p)) = Unit {0}
BringsParting None = ⊥

module _ {N S : Type 0} where
  -- a holder that had no end to answer for, and said whether a session has output left
  pub record SaysLeft (left : Bool) (h : Answered N S) : Type 0 where
    pub joined : h.joined ≡ []
    pub opened : h.opened ≡ []
    pub settled : h.settled ≡ None
    pub output : h.output_left ≡ left

  -- and had none to answer for
  abbrev pub IsSilent : Answered N S → Type 0
  IsSilent h = SaysLeft false h

  -- a pipe was settled with these counts, and so much was said of output left
  pub record HasCounts (counts : Settled) (left : Bool) (a : Answered N S) : Type 0 where
    pub joined : a.joined ≡ []
    pub opened : a.opened ≡ []
    pub settled : a.settled ≡ Some counts
    pub output : a.output_left ≡ left

  -- these ends joined, and else there was nothing to answer for
  pub record HasJoined (joined : List (Joining N)) (a : Answered N S) : Type 0 where
    pub are : a.joined ≡ joined
    pub opened : a.opened ≡ []
    pub settled : a.settled ≡ None
    pub output : a.output_left ≡ false

-- the ends that a command tells joined the holder, but those of a Reap, which had joined before; it has its objects, but one that ended or came with a Reap, and heard what the command tells it of the object
pub record JoinsFor {N S : Type 0} (c : Control) (letter : Letter) (a : Answered N S) (h k : Holding N) : Type 0 where
  pub came : JoinsBy (come_by letter.word a.joined) h k
  pub objects : KeepsObjects c (processed letter.to.0 letter.word (answers_in a) c) h k
  pub heard : HearsMore (heard_by letter.to letter.word c (processed letter.to.0 letter.word (answers_in a) c)) h k

-- nobody has a closed socket whose Reap is on its way
abbrev pub AreFree : {N : Type 0} → Control → Holding N → Type 0
AreFree c h = (i : ℕ) → is_between (obj c.rows i) ≡ true → h.holds i ≡ false

-- a Term may come to an object, with room for all that it asks and tells; the root has no end
pub record HearsTerm {L : Type 0} (c : Control) (s : State L) (at : ℕ) : Type 0 where
  pub rootless : (e : EndId) → is_here (place_of c e) ≡ true → owner_of c e ≢ 0
  pub comes : link_may TermComes (obj c.rows at) ≡ true
  pub room : HasRoomOver (LinkMoves at TermComes ∷ []) c s

module _ {N O I : Type 0} (out_name : O → N) (in_name : I → N) where
  -- the other end's acknowledgement may come to an end of this object, with what it brings, and with room for the object's own acknowledgement behind it
  pub record IsAcknowledged (names : EndId → Option N) (c : Control) (s : State (Load N O I)) (h : Holding N) (at : ℕ) (e : EndId) (load : Option (Load N O I)) : Type 0 where
    pub half : O
    pub brings : load ≡ Some (Writer half)
    pub owner : owner_of c e ≡ at
    pub settles : SettlesAt out_name in_name names c s h e half
    pub ack_room : (w : ℕ) → (obj c.rows at).owner ≡ Some w →
        cond (tells (commands_in AckCame (place_of c e)) && (obj c.rows (owner_of c (other_end e))).slot == (obj c.rows w).slot) 1 0 < (mail_at s.boxes (obj c.rows w).slot).spare

  -- a Reap may come to the root, with all ends of its socket
  pub record IsReaped (names : EndId → Option N) (c : Control) (s : State (Load N O I)) (h : Holding N) (socket : ℕ) (load : Option (Load N O I)) : Type 0 where
    pub parting : Parting N O I
    pub brings : load ≡ Some (Ends parting)
    pub reaps : ReapsAt out_name in_name names c s h socket parting

  -- what a command for an end needs
  abbrev pub HearsEnd : (names : EndId → Option N) → Control → State (Load N O I) → Holding N → (at : ℕ) → Word → Option (Load N O I) → Type 0
  HearsEnd names c s h at (Own child) load = Unit {0}
  HearsEnd names c s h at (Plug end) load = PlugsWith out_name in_name names c s h at end load
  HearsEnd names c s h at (TermReq child) load = Unit {0}
  HearsEnd names c s h at Term load = HearsTerm c s at
  HearsEnd names c s h at (TermAck child) load = Unit {0}
  HearsEnd names c s h at (PipeBind e peer) load = IsBound out_name in_name names c s h at e load
  HearsEnd names c s h at (PipeTerm e) load = TurnsAt out_name in_name c s h e TermCame
  HearsEnd names c s h at (PipeTermAck e) load = IsAcknowledged names c s h at e load
  HearsEnd names c s h at Stop load = Unit {0}
  HearsEnd names c s h at (Reap socket) load = IsReaped names c s h socket.0 load

  -- a command was taken that an object may hear, with a holder that has what the control state says, and has the object unless it comes with its Plug
  pub record MayHear (s : State (Load N O I)) (h : Holding N) (letter : Letter) (load : Option (Load N O I)) : Type 0 where
    pub control : Control
    pub names : EndId → Option N
    pub stands : Stands s control
    pub has : HasAll names control h
    pub lent : is_plug letter.word ≡ false → letter.to.0 ≢ 0 → h.holds letter.to.0 ≡ true
    pub hears : Hears s letter.to.0 letter.word control
    pub ends : HearsEnd names control s h letter.to.0 letter.word load

  -- an acknowledgement came, and its object has a holder that is lent
  pub record MayAcknowledge (s : State (Load N O I)) (h : Holding N) (at : ℕ) (e : EndId) (load : Option (Load N O I)) : Type 0 where
    pub control : Control
    pub names : EndId → Option N
    pub stands : Stands s control
    pub has : HasAll names control h
    pub comes : IsAcknowledged names control s h at e load

  -- the same, whatever lists have another end
  pub record HasDone (names : EndId → Option N) (now : Control) (s t : State (Load N O I)) (k : Holding N) : Type 0 where
    pub stands : Stands t now
    pub has : HasAll names now k
    pub puts : PutsLoaded out_name in_name names s.boxes t.boxes

  -- the pipe was settled, and the object ended if it could; it does not while it is a session that had output left
  pub record Acknowledges (names : EndId → Option N) (c : Control) (at : ℕ) (e : EndId) (counts : Settled) (s t : State (Load N O I)) (h k : Holding N) : Type 0 where
    pub led : Led out_name in_name names (try_end at (has_left c at h) (settle e (Some counts) (happens AckCame e c))) s t k
    pub settled : IsSettled (c.reasons e) counts
    pub turned : TurnsOnce c (try_end at (has_left c at h) (settle e (Some counts) (happens AckCame e c))) h k
    pub joined : k.joined ≡ h.joined
    pub objects : KeepsObjects c (try_end at (has_left c at h) (settle e (Some counts) (happens AckCame e c))) h k

  -- the holder answered what the command asks
  pub record AnswersTo {S : Type 0} (names : EndId → Option N) (c : Control) (h : Holding N) (letter : Letter) (a : Answered N S) : Type 0 where
    pub joined : map (λ j. let x : Joins = record { end = j.end; peer = j.peer; met = j.met } in x) a.joined ≡ word_joins c letter.word
    pub kinds : MayAnswerAll (processed letter.to.0 letter.word (answers_in a) c) a.joined
    pub opened : a.opened ≡ []
    pub settled : Settles c letter.word a.settled
    pub output : a.output_left ≡ left_by c letter.to.0 letter.word h
    pub named : All (IsNamed out_name in_name names) a.joined

  -- a command was processed
  pub record IsProcessed {S : Type 0} (s t : State (Load N O I)) (h k : Holding N) (names : EndId → Option N) (c : Control) (letter : Letter) (a : Answered N S) : Type 0 where
    pub answers : AnswersTo names c h letter a
    pub led : HasDone names (processed letter.to.0 letter.word (answers_in a) c) s t k
    pub places : KeepsPlaces letter.word letter.to.0 s.objects.lists t.objects.lists
