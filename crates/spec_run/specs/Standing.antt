-- How an actor stands between its steps, and what each of its deeds does (own choice).
use Rattle.std.specs.Prelude.{◌≡◌, ◌==◌, ◌+◌, ◌&&◌, ℕ, Bool, true, false, not, List, [], ◌∷◌, ◌++◌, Option, Some, None, if◌then◌else◌, filter, find, map, slice_get}
use Rattle.spec_control.specs.OwnAsks.{is_none}
use Rattle.zq_base.specs.declared.kind.Kind.{Kind}
use Rattle.zq_base.specs.declared.options.Options.{Options}
use Rattle.spec_run.specs.declared.script.Call.TheVariants as call
use Rattle.spec_pattern.specs.PatternCalls.{Subscribe, Unsubscribe}
use Rattle.spec_pattern.specs.declared.answers.Skip.{Skip}
use Rattle.spec_control.specs.declared.request.Req.TheVariants.{Socket as MakeSocket, AskTerm, Close}
use Rattle.spec_control.specs.declared.request.Reply.{Reply}
use Rattle.spec_control.specs.declared.request.Reply.TheVariants.{Done, Object, Pair, Both, Wait, Asked, Before, Refused}
use Rattle.spec_control.specs.Control.{id}
use Rattle.spec_run.specs.declared.answer.Answer.TheVariants as answer
use Rattle.spec_control.specs.Moments.{Moment}
use Rattle.spec_run.specs.declared.script.Call.{Call}
use Rattle.spec_run.specs.declared.script.Line.{Line}
use Rattle.spec_run.specs.declared.script.ActorScript.{ActorScript}
use Rattle.spec_run.specs.Script.{line_is_over}
use Rattle.spec_run.specs.ControlAnswer.{reply_answer}
use Rattle.spec_run.specs.Act.{Act, Try, moments_in, Deed, Tries, Shuts, Fetches, Idles, Works, Looks, AsksRoot, Reads}
use Rattle.spec_run.specs.OpenSocket.{OpenSock, PassesItems, new_open}
use Rattle.spec_run.specs.Event.{IsRequest, TakesLetter, acts_said}
use Rattle.spec_run.specs.Pump.{Pumps}
use Rattle.spec_run.specs.SocketCall.{SendsCall, ReceivesCall, ChangesCall, BindsCall, ConnectsCall, UnbindsCall, DisconnectsCall}

-- what an actor's socket lines made, none where one was refused; and its open sockets, in the order of their making
pub record Sockets : Type 0 where
  pub names : List (Option ℕ)
  pub socks : List OpenSock

-- the lines that are not over, how often the first of these was tried, the messages that its tries dropped, and the sockets
pub record ActorStanding : Type 0 where
  pub lines : List Line
  pub tried : ℕ
  pub told : List Skip
  pub mine : Sockets

abbrev pub standing_before : ActorScript → ActorStanding
standing_before actor = record { lines = actor.lines; tried = 0; told = []; mine = record { names = []; socks = [] } }

abbrev pub object_named : Option (Option ℕ) → Option ℕ
object_named None = None
object_named (Some object) = object

abbrev pub open_numbered : Option ℕ → List OpenSock → Option OpenSock
open_numbered None socks = None
open_numbered (Some object) socks = find (λ s. s.object == object) socks

-- the open socket that the line of this place made
abbrev pub open_at : Sockets → ℕ → Option OpenSock
open_at mine place = open_numbered (object_named (slice_get mine.names place)) mine.socks

abbrev pub with_open : OpenSock → Sockets → Sockets
with_open s mine = record mine { socks = map (λ old. if old.object == s.object then s else old) mine.socks }

abbrev pub without_open : ℕ → Sockets → Sockets
without_open object mine = record mine { socks = filter (λ s. not (s.object == object)) mine.socks }

-- what is left behind a try of the first line
abbrev pub standing_after : (over : Bool) → List Line → List Skip → Sockets → ActorStanding → ActorStanding
standing_after true rest told mine old = record { lines = rest; tried = 0; told = []; mine = mine }
standing_after false rest told mine old = record old { tried = old.tried + 1; told = told; mine = mine }

-- its lines are over and its sockets closed
abbrev pub has_finished : ActorStanding → Bool
has_finished standing = is_none standing.lines && is_none standing.mine.socks

module _ {N S : Type 0} where
  -- the sockets behind a socket line: one more, or a name that stands for none
  abbrev pub made_so : Reply → Moment N S → Kind → Options → Sockets → Sockets
  made_so (Object o) m kind options mine = record { names = mine.names ++ Some o.0 ∷ []; socks = mine.socks ++ new_open m o.0 kind options ∷ [] }
  made_so Done m kind options mine = record mine { names = mine.names ++ None ∷ [] }
  made_so (Pair p) m kind options mine = record mine { names = mine.names ++ None ∷ [] }
  made_so (Both o p) m kind options mine = record mine { names = mine.names ++ None ∷ [] }
  made_so Wait m kind options mine = record mine { names = mine.names ++ None ∷ [] }
  made_so Asked m kind options mine = record mine { names = mine.names ++ None ∷ [] }
  made_so Before m kind options mine = record mine { names = mine.names ++ None ∷ [] }
  made_so (Refused refusal) m kind options mine = record mine { names = mine.names ++ None ∷ [] }

  -- a line that is no call of a socket
  pub record NoPump (t : Try N S) : Type 0 where
    pub pump_is : t.pump ≡ []
    pub skips_are : t.skips ≡ []

  pub record MakesSocket (kind : Kind) (options : Options) (old : Sockets) (t : Try N S) (new : Sockets) : Type 0 where
    pub reply : Reply
    pub made : Moment N S
    pub request : IsRequest (MakeSocket kind options) reply made
    pub no_pump : NoPump t
    pub call_is : t.call ≡ acts_said made
    pub answer_is : t.answer ≡ reply_answer reply
    pub new_is : new ≡ made_so reply made kind options old

  pub record AsksTerm (old : Sockets) (t : Try N S) (new : Sockets) : Type 0 where
    pub reply : Reply
    pub made : Moment N S
    pub request : IsRequest AskTerm reply made
    pub no_pump : NoPump t
    pub call_is : t.call ≡ acts_said made
    pub answer_is : t.answer ≡ reply_answer reply
    pub new_is : new ≡ old

  -- a line on a name that stands for no open socket
  pub record HasNoSocket (old : Sockets) (t : Try N S) (new : Sockets) : Type 0 where
    pub no_pump : NoPump t
    pub call_is : t.call ≡ []
    pub answer_is : t.answer ≡ answer.NoSocket
    pub new_is : new ≡ old

  -- a socket pumps, and then is called
  pub record CallsOpen (Does : OpenSock → Try N S → OpenSock → Type 0) (s : OpenSock) (old : Sockets) (t : Try N S) (new : Sockets) : Type 0 where
    pub pumped : OpenSock
    pub called : OpenSock
    pub pumps : Pumps s t.pump pumped
    pub does : Does pumped t called
    pub new_is : new ≡ with_open called old

  -- a socket is closed, and its ends are given away
  pub record ClosesOne (s : OpenSock) (acts : List (Act N S)) (old new : Sockets) : Type 0 where
    pub closed : Moment N S
    pub request : IsRequest (Close (id s.object)) Done closed
    pub acts_are : acts ≡ acts_said closed
    pub new_is : new ≡ without_open s.object old

  pub record ClosesLine (s : OpenSock) (old : Sockets) (t : Try N S) (new : Sockets) : Type 0 where
    pub no_pump : NoPump t
    pub closes : ClosesOne s t.call old new
    pub answer_is : t.answer ≡ answer.Done

  abbrev pub OnFound : (OpenSock → Sockets → Try N S → Sockets → Type 0) → Option OpenSock → Sockets → Try N S → Sockets → Type 0
  OnFound Does None old t new = HasNoSocket old t new
  OnFound Does (Some s) old t new = Does s old t new

  abbrev pub OnSocket : (OpenSock → Try N S → OpenSock → Type 0) → (place : ℕ) → Sockets → Try N S → Sockets → Type 0
  OnSocket Does place old t new = OnFound (CallsOpen Does) (open_at old place) old t new

  -- what a line does
  abbrev pub DoesLine : Call → Sockets → Try N S → Sockets → Type 0
  DoesLine (call.Socket kind options) old t new = MakesSocket kind options old t new
  DoesLine (call.Bind place at) old t new = OnSocket (BindsCall at) place old t new
  DoesLine (call.Connect place to) old t new = OnSocket (ConnectsCall to) place old t new
  DoesLine (call.Send place m) old t new = OnSocket (SendsCall m) place old t new
  DoesLine (call.Recv place tries) old t new = OnSocket ReceivesCall place old t new
  DoesLine (call.Subscribe place topic) old t new = OnSocket (ChangesCall Subscribe topic) place old t new
  DoesLine (call.Unsubscribe place topic) old t new = OnSocket (ChangesCall Unsubscribe topic) place old t new
  DoesLine (call.Unbind place at) old t new = OnSocket (UnbindsCall at) place old t new
  DoesLine (call.Disconnect place at) old t new = OnSocket (DisconnectsCall at) place old t new
  DoesLine (call.Close place) old t new = OnFound ClosesLine (open_at old place) old t new
  DoesLine call.Term old t new = AsksTerm old t new

  -- an actor tries its first line
  pub record DoesTry (old : ActorStanding) (t : Try N S) (new : ActorStanding) : Type 0 where
    pub rest : List Line
    pub mine : Sockets
    pub lines_are : old.lines ≡ t.line ∷ rest
    pub does : DoesLine t.line.call old.mine t mine
    pub told_is : t.told ≡ old.told ++ t.skips
    pub over_is : t.over ≡ line_is_over old.tried t.line.call t.answer
    pub new_is : new ≡ standing_after t.over rest t.told mine old

  -- behind its last line it closes the first socket that it has left
  pub record ShutsFirst (old : ActorStanding) (acts : List (Act N S)) (new : ActorStanding) : Type 0 where
    pub first : OpenSock
    pub others : List OpenSock
    pub mine : Sockets
    pub no_lines : old.lines ≡ []
    pub socks_are : old.mine.socks ≡ first ∷ others
    pub closes : ClosesOne first acts old.mine mine
    pub new_is : new ≡ record old { mine = mine }

  -- a letter of one of its open sockets is taken by an event of its own
  pub record FetchesOne (old : ActorStanding) (slot : ℕ) (acts : List (Act N S)) (new : ActorStanding) : Type 0 where
    pub socket : OpenSock
    pub now : OpenSock
    pub finds : find (λ s. s.slot == slot) old.mine.socks ≡ Some socket
    pub takes : TakesLetter slot acts
    pub goes : PassesItems (moments_in acts) socket now
    pub new_is : new ≡ record old { mine = with_open now old.mine }

  -- a deed of an actor
  abbrev pub DoesDeed : ActorStanding → Deed N S → ActorStanding → Type 0
  DoesDeed old (Tries t) new = DoesTry old t new
  DoesDeed old (Shuts acts) new = ShutsFirst old acts new
  DoesDeed old (Fetches slot acts) new = FetchesOne old slot acts new
  DoesDeed old (Idles m) new = ⊥
  DoesDeed old (Works acts) new = ⊥
  DoesDeed old (Looks m) new = ⊥
  DoesDeed old (AsksRoot acts) new = ⊥
  DoesDeed old (Reads now) new = ⊥

  -- an actor's deeds, one after another
  abbrev pub LocalRun : ActorStanding → List (Deed N S) → ActorStanding → Type 0
  LocalRun old [] new = new ≡ old
  LocalRun old (d ∷ ds) new = (mid : ActorStanding) × DoesDeed old d mid × LocalRun mid ds new
