-- What the calls do by which actors make, call and close sockets (zmq_socket(3), zmq_close(3), zmq_ctx_term(3); own choice).
use Rattle.std.specs.Prelude.{◌≡◌, ◌≢◌, ℕ, Bool, List, [], ◌++◌}
use Rattle.zq_base.specs.declared.kind.Kind.{Kind}
use Rattle.zq_base.specs.declared.options.Options.{Options}
use Rattle.spec_run.specs.declared.script.Call.TheVariants as call
use Rattle.spec_pattern.specs.PatternCalls.{Subscribe, Unsubscribe}
use Rattle.spec_pattern.specs.declared.answers.Skip.{Skip}
use Rattle.spec_control.specs.declared.request.Req.TheVariants.{Socket as MakeSocket, AskTerm, Close}
use Rattle.spec_control.specs.declared.request.Reply.{Reply}
use Rattle.spec_control.specs.declared.request.Reply.TheVariants as reply
use Rattle.spec_control.specs.Control.{id}
use Rattle.spec_control.specs.Moments.{Moment}
use Rattle.spec_run.specs.declared.answer.Answer.{Answer}
use Rattle.spec_run.specs.declared.script.Call.{Call}
use Rattle.spec_run.specs.declared.script.Line.{Line}
use Rattle.spec_run.specs.ControlAnswer.{reply_answer}
use Rattle.spec_run.specs.Act.{Act, Try}
use Rattle.spec_run.specs.OpenSocket.{OpenSock, new_open}
use Rattle.spec_run.specs.Event.{IsRequest, acts_said}
use Rattle.spec_run.specs.Pump.{Pumps}
use Rattle.spec_run.specs.SocketCall.{SendsCall, ReceivesCall, ChangesCall, BindsCall, ConnectsCall, UnbindsCall, DisconnectsCall}
use Rattle.zq_world.specs.Piece.{Piece, AddsActs}
use Rattle.zq_world.specs.declared.made.Made.{Made}
use Rattle.zq_world.specs.declared.made.Made.TheVariants as made

-- a line is a call of a socket
abbrev pub AsksSocket : Call → Type 0
AsksSocket (call.Socket kind options) = ⊥
AsksSocket (call.Close place) = ⊥
AsksSocket call.Term = ⊥
AsksSocket _ = Unit {0}

module _ {N S : Type 0} where
  -- what a line's call does to the socket that was pumped before it
  abbrev pub AsksOpen : Call → OpenSock → Try N S → OpenSock → Type 0
  AsksOpen (call.Socket kind options) old t new = ⊥
  AsksOpen (call.Bind place at) old t new = BindsCall at old t new
  AsksOpen (call.Connect place to) old t new = ConnectsCall to old t new
  AsksOpen (call.Send place m) old t new = SendsCall m old t new
  AsksOpen (call.Recv place tries) old t new = ReceivesCall old t new
  AsksOpen (call.Subscribe place topic) old t new = ChangesCall Subscribe topic old t new
  AsksOpen (call.Unsubscribe place topic) old t new = ChangesCall Unsubscribe topic old t new
  AsksOpen (call.Unbind place at) old t new = UnbindsCall at old t new
  AsksOpen (call.Disconnect place at) old t new = DisconnectsCall at old t new
  AsksOpen (call.Close place) old t new = ⊥
  AsksOpen call.Term old t new = ⊥

  -- a socket is pumped and called, as the try of any line that makes this call
  pub record CallsOne (caller : ℕ) (asks : Call) (old new : OpenSock) (answer : Answer) (told told_now : List Skip) (before after : List (Piece N S)) : Type 0 where
    pub pump : List (Act N S)
    pub acts : List (Act N S)
    pub skips : List Skip
    pub pumped : OpenSock
    pub pumps : Pumps old pump pumped
    pub does : (line : Line) (all : List Skip) (over : Bool) →
        AsksOpen asks pumped (record { line = line; pump = pump; call = acts; skips = skips; told = all; answer = answer; over = over }) new
    pub tells : told_now ≡ told ++ skips
    pub adds : AddsActs caller (pump ++ acts) skips before after

  -- a socket is closed: one request, which gives its ends away
  pub record ClosesSo (caller object : ℕ) (before after : List (Piece N S)) : Type 0 where
    pub closed : Moment N S
    pub request : IsRequest (Close (id object)) reply.Done closed
    pub adds : AddsActs caller (acts_said closed) [] before after

  -- the context is asked to end
  pub record AsksToEnd (caller : ℕ) (answer : Answer) (before after : List (Piece N S)) : Type 0 where
    pub replied : Reply
    pub asked : Moment N S
    pub request : IsRequest AskTerm replied asked
    pub answer_is : answer ≡ reply_answer replied
    pub adds : AddsActs caller (acts_said asked) [] before after

module _ {O : Type 0} where
  -- the reply to the making of a socket
  abbrev pub made_reply : Made O → Reply
  made_reply (made.Socket object socket) = reply.Object object
  made_reply (made.Refused refusal) = reply.Refused refusal

module _ {O N S : Type 0} (as_open : O → OpenSock) where
  -- a socket that was made is as it is at its making
  abbrev pub IsAtMaking : Moment N S → Kind → Options → Made O → Type 0
  IsAtMaking m kind options (made.Socket object socket) = as_open socket ≡ new_open m object.0 kind options
  IsAtMaking m kind options (made.Refused refusal) = Unit {0}

  -- a socket is asked for: one request, which makes it or is refused
  pub record MakesOne (caller : ℕ) (kind : Kind) (options : Options) (result : Made O) (before after : List (Piece N S)) : Type 0 where
    pub asked : Moment N S
    pub request : IsRequest (MakeSocket kind options) (made_reply result) asked
    pub at_making : IsAtMaking asked kind options result
    pub adds : AddsActs caller (acts_said asked) [] before after

module _ {W O : Type 0} (as_open : O → OpenSock) (agrees : W → ℕ → O → Type 0) (was_made : W → ℕ → Type 0) where
  -- a socket that was made is its caller's, under a number that no object had
  abbrev pub IsNew : (caller : ℕ) → Made O → (old new : W) → Type 0
  IsNew caller (made.Socket object socket) old new =
      (was_made old object.0 → ⊥) × (was_made new object.0 × agrees new caller socket)
  IsNew caller (made.Refused refusal) old new = Unit {0}

  -- all sockets agree still but for the one of this caller with this number, and what was made was made
  pub record KeepsOthers (caller object : ℕ) (old new : W) : Type 0 where
    pub sockets : (k : ℕ) (s : O) → agrees old k s → (k ≡ caller → (as_open s).object ≢ object) → agrees new k s
    pub numbers : (o : ℕ) → was_made old o → was_made new o

module _ {W O : Type 0} (agrees : W → ℕ → O → Type 0) (was_made : W → ℕ → Type 0) where
  -- all sockets agree still, and what was made was made
  pub record KeepsAll (old new : W) : Type 0 where
    pub sockets : (k : ℕ) (s : O) → agrees old k s → agrees new k s
    pub numbers : (o : ℕ) → was_made old o → was_made new o

module _ {W O : Type 0} (as_open : O → OpenSock) (agrees : W → ℕ → O → Type 0) where
  -- a socket was lent and came back: it agrees, and has its number
  pub record KeepsLent (caller : ℕ) (lent back : O) (now : W) : Type 0 where
    pub agrees_now : agrees now caller back
    pub same : (as_open back).object ≡ (as_open lent).object
