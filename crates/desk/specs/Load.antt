-- What the commands of a control plane carry (own choice).
use Rattle.std.specs.Prelude.{◌≡◌, ℕ, Bool, true, false, List, [], Option, Some, None, All, is_some, map}
use Rattle.zq_base.specs.Ends.{other_end}
use Rattle.zq_base.specs.declared.ids.EndId.{EndId}
use Rattle.spec_control.specs.declared.letter.Word.{Word}
use Rattle.spec_control.specs.declared.letter.Word.TheVariants.{Own, Plug, TermReq, Term, TermAck, PipeBind, PipeTerm, PipeTermAck, Stop, Reap}
use Rattle.desk.specs.declared.halves.NamedHalves.{NamedHalves}
use Rattle.spec_control.specs.declared.entry.Joining.{Joining}
use Rattle.spec_control.specs.Place.{At}
use Rattle.spec_control.specs.Rows.{obj}
use Rattle.spec_control.specs.Control.{Control, place_of}
use Rattle.spec_control.specs.ControlRun.{Joins, is_between, reap_joins}
use Rattle.desk.specs.declared.given.Given.{Given}
use Rattle.desk.specs.declared.given.Parting.{Parting}
use Rattle.desk.specs.declared.load.Load.{Load}
use Rattle.desk.specs.Holding.{AreGivenAs}
use Rattle.desk.specs.Lent.{has_writer}
use Rattle.desk.specs.declared.load.Load.TheVariants.{Halves as BringsHalves, Plug as BringsPlug, Writer, Ends}

module _ {N O I : Type 0} (out_name : O → N) (in_name : I → N) (name_of : EndId → Option N) where
  -- the halves of this end: each half is of the pipe that has the name given at its making
  pub record AreHalvesOf (e : EndId) (h : NamedHalves N O I) : Type 0 where
    pub out : out_name h.halves.out ≡ h.written
    pub input : in_name h.halves.input ≡ h.read
    pub written : name_of e ≡ Some h.written
    pub read : name_of (other_end e) ≡ Some h.read

  -- a bind brings the halves of its end
  abbrev pub BringsHalvesOf : EndId → Option (Load N O I) → Type 0
  BringsHalvesOf e (Some (BringsHalves h)) = AreHalvesOf e h
  BringsHalvesOf e (Some (BringsPlug address halves)) = ⊥
  BringsHalvesOf e (Some (Writer o)) = ⊥
  BringsHalvesOf e (Some (Ends p)) = ⊥
  BringsHalvesOf e None = ⊥

  -- a listener has no end, and a connecting session comes with the halves of its own
  abbrev pub AreHalvesFor : Option EndId → Option (NamedHalves N O I) → Type 0
  AreHalvesFor None None = Unit {0}
  AreHalvesFor None (Some h) = ⊥
  AreHalvesFor (Some e) None = ⊥
  AreHalvesFor (Some e) (Some h) = AreHalvesOf e h

  -- a Plug brings an address, and the halves of its session's end
  abbrev pub BringsPlugOf : Option EndId → Option (Load N O I) → Type 0
  BringsPlugOf end (Some (BringsHalves h)) = ⊥
  BringsPlugOf end (Some (BringsPlug address halves)) = AreHalvesFor end halves
  BringsPlugOf end (Some (Writer o)) = ⊥
  BringsPlugOf end (Some (Ends p)) = ⊥
  BringsPlugOf end None = ⊥

  -- an acknowledgement brings the writing half of the pipe that this end reads
  abbrev pub BringsWriterTo : EndId → Option (Load N O I) → Type 0
  BringsWriterTo e (Some (BringsHalves h)) = ⊥
  BringsWriterTo e (Some (BringsPlug address halves)) = ⊥
  BringsWriterTo e (Some (Writer o)) = name_of (other_end e) ≡ Some (out_name o)
  BringsWriterTo e (Some (Ends p)) = ⊥
  BringsWriterTo e None = ⊥

  -- an end that the reaper takes over is told with the names of its pipes
  pub record IsNamed (j : Joining N) : Type 0 where
    pub written : name_of j.end ≡ Some j.written
    pub read : name_of (other_end j.end) ≡ Some j.read

  -- a closed socket's ends, with the list of them that the plane notes
  pub record AreEndsOfClosed (p : Parting N O I) : Type 0 where
    pub listed : AreGivenAs out_name in_name p.ends.items p.joined
    pub named : All IsNamed p.joined

  abbrev pub BringsEnds : Option (Load N O I) → Type 0
  BringsEnds (Some (BringsHalves h)) = ⊥
  BringsEnds (Some (BringsPlug address halves)) = ⊥
  BringsEnds (Some (Writer o)) = ⊥
  BringsEnds (Some (Ends p)) = AreEndsOfClosed p
  BringsEnds None = ⊥

  -- what a command carries is what it is to bring
  abbrev pub Carries : Word → Option (Load N O I) → Type 0
  Carries (Own child) load = load ≡ None
  Carries (Plug end) load = BringsPlugOf end load
  Carries (TermReq child) load = load ≡ None
  Carries Term load = load ≡ None
  Carries (TermAck child) load = load ≡ None
  Carries (PipeBind e peer) load = BringsHalvesOf e load
  Carries (PipeTerm e) load = load ≡ None
  Carries (PipeTermAck e) load = BringsWriterTo e load
  Carries Stop load = load ≡ None
  Carries (Reap socket) load = BringsEnds load

-- a closed socket's ends are brought by its Reap alone
abbrev pub brings_ends : Word → Bool
brings_ends (Own child) = false
brings_ends (Plug end) = false
brings_ends (TermReq child) = false
brings_ends Term = false
brings_ends (TermAck child) = false
brings_ends (PipeBind e peer) = false
brings_ends (PipeTerm e) = false
brings_ends (PipeTermAck e) = false
brings_ends Stop = false
brings_ends (Reap socket) = true

-- the ends of a closed socket that a command brings
abbrev pub given_by : {N O I : Type 0} → Option (Load N O I) → List (Given N O I)
given_by (Some (BringsHalves h)) = []
given_by (Some (BringsPlug address halves)) = []
given_by (Some (Writer o)) = []
given_by (Some (Ends p)) = p.ends.items
given_by None = []

module _ {N O I : Type 0} where
  -- a closed socket gives all of its ends that are there, as they are, each with its writing half but where it acknowledged, and tells how far each is
  pub record GivesAll (c : Control) (socket : ℕ) (p : Parting N O I) : Type 0 where
    pub joined : map (λ j. let x : Joins = record { end = j.end; peer = j.peer; met = j.met } in x) p.joined ≡ reap_joins c socket
    pub writers : All (λ g. is_some g.out ≡ has_writer (place_of c g.end)) p.ends.items
    pub states : All (λ g. place_of c g.end ≡ At g.state) p.ends.items

  -- they are those of a closed socket whose Reap is on its way
  pub record ComeToReaper (c : Control) (socket : ℕ) (p : Parting N O I) : Type 0 where
    pub between : is_between (obj c.rows socket) ≡ true
    pub all : GivesAll c socket p

  abbrev pub BringsAll : Control → ℕ → Option (Load N O I) → Type 0
  BringsAll c socket (Some (BringsHalves h)) = Unit {0}
  BringsAll c socket (Some (BringsPlug address halves)) = Unit {0}
  BringsAll c socket (Some (Writer o)) = Unit {0}
  BringsAll c socket (Some (Ends p)) = ComeToReaper c socket p
  BringsAll c socket None = Unit {0}

  -- a Reap brings them all, by this control state
  abbrev pub ReapsAll : Control → Word → Option (Load N O I) → Type 0
  ReapsAll c (Own child) load = Unit {0}
  ReapsAll c (Plug end) load = Unit {0}
  ReapsAll c (TermReq child) load = Unit {0}
  ReapsAll c Term load = Unit {0}
  ReapsAll c (TermAck child) load = Unit {0}
  ReapsAll c (PipeBind e peer) load = Unit {0}
  ReapsAll c (PipeTerm e) load = Unit {0}
  ReapsAll c (PipeTermAck e) load = Unit {0}
  ReapsAll c Stop load = Unit {0}
  ReapsAll c (Reap socket) load = BringsAll c socket.0 load
