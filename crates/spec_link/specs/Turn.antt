-- What a session does in its turns, by how it stands (own choice).
use Rattle.std.specs.Prelude.{◌≡◌, ℕ, ◌≤◌, ◌⊎◌, Bool, true, false, ◌&&◌, if◌then◌else◌, List, [], ◌∷◌, ◌++◌, length, drop, map, Option, Some, None, IsSome, Contains}
use Rattle.std.specs.List.{flat_map, fold}
use Rattle.zq_base.specs.Message.{Frames}
use Rattle.zq_base.specs.declared.kind.Kind.{Kind}
use Rattle.zq_base.specs.declared.kind.Kind.TheVariants.{Push, Pull, Pair, Dealer, Req, Rep, Router, Pub, XPub, Sub, XSub}
use Rattle.zq_base.specs.declared.options.Peer.{Peer}
use Rattle.zq_base.specs.Ends.{PipeId}
use Rattle.zq_outer.specs.declared.link.LinkGot.{LinkGot}
use Rattle.zq_outer.specs.declared.link.LinkGot.TheVariants as got
use Rattle.zq_outer.specs.declared.link.LinkPut.{LinkPut}
use Rattle.zq_outer.specs.declared.link.LinkPut.TheVariants as put
use Rattle.spec_pattern.specs.PipeStep.{PipeStep, WaitingLook, EmptyLook, DelimiterLook, read_through}
use Rattle.spec_pattern.specs.Topics.{Topic, with_topic, without_topic}
use Rattle.spec_pattern.specs.Publishing.{Saying, Adds, Cancels, Other, saying_of}
use Rattle.spec_pattern.specs.Subscribing.{tell_message}
use Rattle.spec_control.specs.declared.end.EndState.TheVariants.{Active, WaitDelimiter, Gone}
use Rattle.spec_control.specs.declared.end.Reason.TheVariants.{Linger, Link}
use Rattle.spec_control.specs.declared.request.Req.TheVariants.{Shaken, AskEnd, AskOver, OutputOver}
use Rattle.spec_zmtp.specs.declared.cause.Refusal.{Refusal}
use Rattle.spec_zmtp.specs.DecodedStream.{Decoded, Decodes, Refused as StreamRefused}
use Rattle.spec_link.specs.declared.due.Due.{Due}
use Rattle.spec_link.specs.declared.due.Due.TheVariants.{Request, Delimiter}
use Rattle.spec_link.specs.declared.row.LinkEnd.{LinkEnd}
use Rattle.spec_link.specs.declared.row.LinkEnd.TheVariants as why
use Rattle.spec_link.specs.LinkAct.{HostAnswer, Writes, Reads, Repeats, LinkAct, Wire, Step, heard_of, taken_of, repeated_of}
use Rattle.spec_link.specs.Parts.{IsRunning, SomethingToWrite, NothingHeld, SomethingHeld, IsTake, WriteFits, IsWritePart, IsReadPart, IsSilentReadPart, PutsAll, write_acts}
use Rattle.spec_link.specs.Rows.{ClosedLink}
use Rattle.spec_link.specs.History.{Basis, SessionEvent, Dialled, Acted, Closed, GaveUp, IsDue, Standing, later, after_all}

-- ---- how a session stands

-- the pipe that its end reads, and the one that it writes
abbrev pub read_pipe : Basis → PipeId
read_pipe b = read_through b.end

abbrev pub written_pipe : Basis → PipeId
written_pipe b = b.end

-- its end can be read, and can be written
abbrev pub CanRead : Standing → Type 0
CanRead s = (s.state ≡ Some Active) ⊎ (s.state ≡ Some WaitDelimiter)

abbrev pub CanWrite : Standing → Type 0
CanWrite s = s.state ≡ Some Active

-- its Term was processed
abbrev pub IsTold : Standing → Type 0
IsTold s = IsSome s.told

-- this became due before
abbrev pub WasDue : Standing → Due → Type 0
WasDue s due = Contains s.dues due

-- it was told to end, and its linger is over
abbrev pub LingerIsOver : Option ℕ → Option ℕ → ℕ → Type 0
LingerIsOver None told now = ⊥
LingerIsOver (Some n) None now = ⊥
LingerIsOver (Some n) (Some moment) now = later moment n ≤ now

-- it waits for nothing but its output, and has none left: it has no link, or all is written there, or it gave up
pub record HasNoOutput (b : Basis) (s : Standing) : Type 0 where
  pub gone : (s.state ≡ Some Gone) ⊎ (s.state ≡ None)
  pub none : (s.gave_up ≡ true) ⊎ ((b.linger ≡ Some 0) ⊎ ((acts : List LinkAct) → s.link ≡ Some acts → SomethingToWrite b.opts acts → ⊥))

-- ---- steps that are made exactly where they are due

-- these events come exactly where the premise holds, and else none
abbrev pub Exactly : (premise : Type 0) → (List SessionEvent → Type 0) → List SessionEvent → Type 0
Exactly premise come events = (premise × come events) ⊎ ((premise → ⊥) × (events ≡ []))

-- one thing becomes due, where it wasn't before
abbrev pub DueOnce : Standing → (premise : Type 0) → Due → List SessionEvent → Type 0
DueOnce s premise due events = Exactly (premise × (WasDue s due → ⊥)) (λ e. e ≡ IsDue due ∷ []) events

-- it gives up, and asks its end where that waits for the delimiter
abbrev pub GivesUp : Basis → Standing → List SessionEvent → Type 0
GivesUp b s events =
    (asks : List SessionEvent) × (events ≡ GaveUp ∷ asks)
    × DueOnce s (s.state ≡ Some WaitDelimiter) (Request (AskEnd b.end Linger)) asks

-- the delimiter becomes due where a look met it
abbrev pub DelimiterIsDue : Basis → Standing → List LinkAct → List SessionEvent → Type 0
DelimiterIsDue b s acts events = DueOnce s (Contains acts (Step (DelimiterLook (read_pipe b)))) (Delimiter b.end) events

-- ---- without a link

-- a look at the front of its pipe, which takes nothing
abbrev pub IsLook : PipeId → PipeStep → Type 0
IsLook pipe step = (step ≡ WaitingLook pipe) ⊎ ((step ≡ EmptyLook pipe) ⊎ (step ≡ DelimiterLook pipe))

abbrev pub Looks : Basis → Standing → List SessionEvent → Type 0
Looks b s events =
    (step : PipeStep) × IsLook (read_pipe b) step
    × (dues : List SessionEvent) × (events ≡ Acted (Step step) ∷ dues) × DelimiterIsDue b s (Step step ∷ []) dues

-- a dial is due: it dials, the moment has come, and it wasn't told, or its end can be read and the look before it didn't meet the delimiter
pub record DialIsDue (b : Basis) (s : Standing) (looks : List SessionEvent) (now : ℕ) : Type 0 where
  pub dials : b.dials ≡ true
  pub moment : s.dial_at ≤ now
  pub wanted : (IsTold s → ⊥) ⊎ (CanRead s × (Contains looks (Acted (Step (DelimiterLook (read_pipe b)))) → ⊥))

-- a turn without a link: a look where the end can be read, and one dial where that is due
pub record IsUnlinkedTurn (b : Basis) (s : Standing) (now : ℕ) (more : List SessionEvent) : Type 0 where
  pub looks : List SessionEvent
  pub dial : List SessionEvent
  pub all : more ≡ looks ++ dial
  pub looked : Exactly (CanRead s) (Looks b s) looks
  pub dialled : Exactly (DialIsDue b s looks now) (λ e. (answer : HostAnswer) × (e ≡ Dialled now answer ∷ [])) dial

-- ---- with a link

-- why a link is over by its last answer
abbrev pub write_end : LinkPut → Option LinkEnd
write_end (put.Took n) = None
write_end put.NotReady = None
write_end put.Ended = Some why.Ended
write_end put.Failed = Some why.Failed

abbrev pub read_end : LinkGot → Option LinkEnd
read_end (got.Bytes n) = None
read_end got.NotReady = None
read_end got.Ended = Some why.Ended
read_end got.Failed = Some why.Failed

-- an act after which the link is over, and why
abbrev pub EndsBy : LinkAct → LinkEnd → Type 0
EndsBy act cause =
    ((answer : LinkPut) × (octets : List ℕ) × (act ≡ Wire (Writes answer octets)) × (write_end answer ≡ Some cause))
    ⊎ ((answer : LinkGot) × (octets : List ℕ) × (act ≡ Wire (Reads answer octets)) × (read_end answer ≡ Some cause))

abbrev pub IsEndedBy : List LinkAct → LinkEnd → Type 0
IsEndedBy acts cause = (act : LinkAct) × Contains acts act × EndsBy act cause

abbrev pub IsEnded : List LinkAct → Type 0
IsEnded acts = (cause : LinkEnd) × IsEndedBy acts cause

-- what was heard on a link is refused
abbrev pub IsRefusedBy : Basis → List LinkAct → LinkEnd → Type 0
IsRefusedBy b acts cause =
    (d : Decoded) × Decodes b.opts (heard_of acts) d × (r : Refusal) × (d.outcome ≡ StreamRefused r) × (cause ≡ why.Refused r.cause)

-- a write alone, where something is to be written
pub record IsWriteOnly (b : Basis) (acts more : List LinkAct) : Type 0 where
  pub answer : Option LinkPut
  pub octets : List ℕ
  pub all : more ≡ write_acts answer octets
  pub fits : WriteFits answer octets
  pub some : IsSome answer → SomethingToWrite b.opts acts
  pub none : answer ≡ None → SomethingToWrite b.opts acts → ⊥

-- a connecting session of a SUB or XSUB says again what it took at the links before, lost or not, in topic order
abbrev pub subscribes : Kind → Bool
subscribes Push = false
subscribes Pull = false
subscribes Pair = false
subscribes Dealer = false
subscribes Req = false
subscribes Rep = false
subscribes Router = false
subscribes Pub = false
subscribes XPub = false
subscribes Sub = true
subscribes XSub = true

abbrev pub topics_by : Saying → List Topic → List Topic
topics_by (Adds topic) topics = with_topic topic topics
topics_by (Cancels topic) topics = without_topic topic topics
topics_by Other topics = topics

abbrev pub topics_taken : List Frames → List Topic
topics_taken messages = fold (λ topics m. topics_by (saying_of m) topics) [] messages

abbrev pub topics_due : Basis → List ClosedLink → List Topic
topics_due b closed =
    if b.dials && subscribes b.opts.kind then topics_taken (flat_map (λ link. taken_of link.acts) closed) else []

-- those that weren't said yet at this link
abbrev pub topics_left : Basis → Standing → List LinkAct → List Topic
topics_left b s acts = drop (length (repeated_of acts)) (topics_due b s.closed)

-- what the writing part does behind its write: it says a topic again while one is left, and else it takes from the pipe
abbrev pub IsNextOf : PipeId → List Topic → LinkAct → Type 0
IsNextOf pipe [] act = IsTake pipe act
IsNextOf pipe (topic ∷ topics) act = act ≡ Wire (Repeats (tell_message (1, topic)))

-- its end can be read, or it has topics to say again
abbrev pub HasNext : Standing → List Topic → Type 0
HasNext s [] = CanRead s
HasNext s (topic ∷ topics) = Unit {0}

-- the writing part: as it is where there is something to say, and else a write alone
abbrev pub WritesAt : Basis → Standing → List LinkAct → List LinkAct → Type 0
WritesAt b s acts more =
    (HasNext s (topics_left b s acts) × IsWritePart b.opts (IsNextOf (read_pipe b) (topics_left b s acts)) acts more)
    ⊎ ((HasNext s (topics_left b s acts) → ⊥) × IsWriteOnly b acts more)

-- it reads no more: it was told to end before its pair was made
abbrev pub ReadsNoMore : Standing → Type 0
ReadsNoMore s = IsTold s × (s.state ≡ None)

-- the reading part: as it is where its end can be written. A PUSH drops what it hears, and else what is heard is held.
pub data ReadsAt (b : Basis) (s : Standing) (acts more : List LinkAct) : Type 0 where
  no_more : ReadsNoMore s → more ≡ [] → ReadsAt b s acts more
  puts : (ReadsNoMore s → ⊥) → (b.opts.kind ≡ Push → ⊥) → CanWrite s → IsReadPart b.opts (written_pipe b) acts more → ReadsAt b s acts more
  drops : (ReadsNoMore s → ⊥) → b.opts.kind ≡ Push → IsSilentReadPart (Unit {0}) more → ReadsAt b s acts more
  holds : (ReadsNoMore s → ⊥) → (b.opts.kind ≡ Push → ⊥) → (CanWrite s → ⊥) → IsSilentReadPart (NothingHeld b.opts acts) more → ReadsAt b s acts more

-- what is whole and still held is put, as far as the end can be written and the pipe has room
abbrev pub PutsLast : Basis → Standing → List LinkAct → List LinkAct → Type 0
PutsLast b s acts more =
    ((CanWrite s × (b.opts.kind ≡ Push → ⊥)) × PutsAll (SomethingHeld b.opts (acts ++ more)) (NothingHeld b.opts (acts ++ more)) (written_pipe b) more)
    ⊎ (((CanWrite s × (b.opts.kind ≡ Push → ⊥)) → ⊥) × (more ≡ []))

-- a link that is over: what is held is put, where no reading part came before; where the stream is refused, one write of what is left; and the link is let go. An accepted session asks its end and asks to end.
pub record ClosesLink (b : Basis) (s : Standing) (unread answered : Type 0) (acts : List LinkAct) (cause : LinkEnd) (now : ℕ) (more : List SessionEvent) : Type 0 where
  pub puts : List LinkAct
  pub last : List LinkAct
  pub asks : List SessionEvent
  pub over : List SessionEvent
  pub all : more ≡ map (λ a. Acted a) (puts ++ last) ++ (Closed now cause ∷ (asks ++ over))
  pub puts_are : (unread × PutsLast b s acts puts) ⊎ ((unread → ⊥) × (puts ≡ []))
  pub refused : answered ⊎ IsWriteOnly b (acts ++ puts) last
  pub silent : answered → last ≡ []
  pub asks_are : DueOnce s ((b.dials ≡ false) × (IsSome s.state × (s.state ≡ Some Gone → ⊥))) (Request (AskEnd b.end Link)) asks
  pub over_is : DueOnce (after_all b s asks) (b.dials ≡ false) (Request (AskOver b.object)) over

-- what was heard is refused for some cause
abbrev pub IsRefused : Basis → List LinkAct → Type 0
IsRefused b acts = (cause : LinkEnd) × IsRefusedBy b acts cause

-- it said before that its handshake is done
abbrev pub WasShaken : Basis → Standing → Type 0
WasShaken b s = (peer : Peer) × WasDue s (Request (Shaken b.object peer))

-- the handshake is done with this peer, whatever came behind it
abbrev pub IsShakenBy : Basis → List LinkAct → Peer → Type 0
IsShakenBy b acts peer = (d : Decoded) → Decodes b.opts (heard_of acts) d → d.peer ≡ Some peer

-- an accepted session that wasn't told says once that its handshake is done
abbrev pub MayShake : Basis → Standing → Type 0
MayShake b s = (b.dials ≡ false) × ((IsTold s → ⊥) × (WasShaken b s → ⊥))

abbrev pub ShakenIsDue : Basis → Standing → List LinkAct → List SessionEvent → Type 0
ShakenIsDue b s acts events =
    ((peer : Peer) × IsShakenBy b acts peer × MayShake b s × (events ≡ IsDue (Request (Shaken b.object peer)) ∷ []))
    ⊎ (((peer : Peer) → IsShakenBy b acts peer → MayShake b s → ⊥) × (events ≡ []))
