-- The two parts of a session's turn with a link, by all acts at the link before them (own choice).
use Rattle.std.specs.Prelude.{◌≡◌, ℕ, ◌⊎◌, List, [], ◌∷◌, ◌++◌, Option, Some, None, IsSome}
use Rattle.zq_base.specs.Message.{Frames}
use Rattle.zq_base.specs.Ends.{PipeId}
use Rattle.zq_base.specs.declared.options.EngineOpts.{EngineOpts}
use Rattle.zq_outer.specs.declared.link.LinkGot.{LinkGot}
use Rattle.zq_outer.specs.declared.link.LinkPut.{LinkPut}
use Rattle.zq_outer.specs.declared.link.LinkPut.TheVariants as put
use Rattle.spec_pattern.specs.PipeStep.{Commit, FullLook, Take, EmptyLook, DelimiterLook}
use Rattle.spec_zmtp.specs.DecodedStream.{Decoded, Decodes, Unfinished}
use Rattle.spec_link.specs.LinkAct.{FitsPut, FitsGot, Writes, Reads, LinkAct, Wire, Step, heard_of, put_of}
use Rattle.spec_link.specs.LinkRun.{IsAllSaid}

-- ---- how it stands at a link

-- the handshake is done, and nothing is refused
pub record IsRunning (d : Decoded) : Type 0 where
  pub known : IsSome d.peer
  pub rest : ℕ
  pub fine : d.outcome ≡ Unfinished rest

module _ (opts : EngineOpts) (acts : List LinkAct) where
  -- all that is to be said so far is written, or some of it isn't
  abbrev pub NothingToWrite : Type 0
  NothingToWrite = (d : Decoded) → Decodes opts (heard_of acts) d → IsAllSaid opts d acts

  abbrev pub SomethingToWrite : Type 0
  SomethingToWrite = (d : Decoded) → Decodes opts (heard_of acts) d → IsAllSaid opts d acts → ⊥

  -- the handshake is done, nothing is refused, and all is written
  abbrev pub MayTake : Type 0
  MayTake = (d : Decoded) → Decodes opts (heard_of acts) d → IsAllSaid opts d acts × IsRunning d

  -- all whole messages are put, or one is held
  abbrev pub NothingHeld : Type 0
  NothingHeld = (d : Decoded) → Decodes opts (heard_of acts) d → put_of acts ≡ d.messages

  abbrev pub SomethingHeld : Type 0
  SomethingHeld = (d : Decoded) → Decodes opts (heard_of acts) d → put_of acts ≡ d.messages → ⊥

-- ---- the writing part

-- the act of a write, where one was made
abbrev pub write_acts : Option LinkPut → List ℕ → List LinkAct
write_acts None octets = []
write_acts (Some answer) octets = Wire (Writes answer octets) ∷ []

abbrev pub WriteFits : Option LinkPut → List ℕ → Type 0
WriteFits None octets = octets ≡ []
WriteFits (Some answer) octets = FitsPut answer octets

-- the link is over by this answer
abbrev pub IsWriteOver : Option LinkPut → Type 0
IsWriteOver answer = (answer ≡ Some put.Ended) ⊎ (answer ≡ Some put.Failed)

-- a take from the pipe: a message, none, or the delimiter
abbrev pub IsTake : PipeId → LinkAct → Type 0
IsTake pipe act =
    ((m : Frames) × (act ≡ Step (Take pipe m))) ⊎ ((act ≡ Step (EmptyLook pipe)) ⊎ (act ≡ Step (DelimiterLook pipe)))

-- One write where something is to be written; and then, where the link stands, one act more where the handshake is done and all is written: a take from the pipe, or a topic that is said again.
pub record IsWritePart (opts : EngineOpts) (IsNext : LinkAct → Type 0) (acts more : List LinkAct) : Type 0 where
  pub answer : Option LinkPut
  pub octets : List ℕ
  pub takes : List LinkAct
  pub all : more ≡ write_acts answer octets ++ takes
  pub fits : WriteFits answer octets
  pub none : answer ≡ None → NothingToWrite opts acts
  pub some : IsSome answer → SomethingToWrite opts acts
  pub over : IsWriteOver answer → takes ≡ []
  pub take : (IsWriteOver answer → ⊥) → MayTake opts (acts ++ write_acts answer octets) → (act : LinkAct) × IsNext act × (takes ≡ act ∷ [])
  pub wait : (MayTake opts (acts ++ write_acts answer octets) → ⊥) → takes ≡ []

-- ---- the reading part

-- the act of a read, where one was made
abbrev pub read_acts : Option LinkGot → List ℕ → List LinkAct
read_acts None octets = []
read_acts (Some answer) octets = Wire (Reads answer octets) ∷ []

abbrev pub ReadFits : Option LinkGot → List ℕ → Type 0
ReadFits None octets = octets ≡ []
ReadFits (Some answer) octets = FitsGot answer octets

-- messages that are put into the pipe, in order
abbrev pub puts : PipeId → List Frames → List LinkAct
puts pipe [] = []
puts pipe (m ∷ ms) = Step (Commit pipe m) ∷ puts pipe ms

-- messages are put, until nothing is held, or up to a look that finds the pipe full
abbrev pub PutsAll : (held nothing : Type 0) → PipeId → List LinkAct → Type 0
PutsAll held nothing pipe acts =
    (ms : List Frames) × (((acts ≡ puts pipe ms) × nothing) ⊎ ((acts ≡ puts pipe ms ++ Step (FullLook pipe) ∷ []) × held))

-- One read where nothing is held; and then all whole messages are put, in order, until the pipe is full.
pub record IsReadPart (opts : EngineOpts) (pipe : PipeId) (acts more : List LinkAct) : Type 0 where
  pub answer : Option LinkGot
  pub octets : List ℕ
  pub later : List LinkAct
  pub all : more ≡ read_acts answer octets ++ later
  pub fits : ReadFits answer octets
  pub held : answer ≡ None → SomethingHeld opts acts
  pub read : IsSome answer → NothingHeld opts acts
  pub whole : PutsAll (SomethingHeld opts (acts ++ more)) (NothingHeld opts (acts ++ more)) pipe later

-- The same at a session that drops what it hears, or whose end can't be written: one read where nothing is to be put, and no put.
pub record IsSilentReadPart (reads : Type 0) (more : List LinkAct) : Type 0 where
  pub answer : Option LinkGot
  pub octets : List ℕ
  pub all : more ≡ read_acts answer octets
  pub fits : ReadFits answer octets
  pub read : IsSome answer → reads
  pub waits : answer ≡ None → reads → ⊥
