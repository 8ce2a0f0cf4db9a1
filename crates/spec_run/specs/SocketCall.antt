-- What a call of an open socket does (zmq_msg_send(3), zmq_msg_recv(3), zmq_bind(3), zmq_connect(3), zmq_unbind(3), zmq_disconnect(3)): on messages what its kind does, and else a request to the control plane.
use Rattle.std.specs.Prelude.{◌≡◌, ◌||◌, Bool, true, false, List, [], ◌∷◌, if◌then◌else◌, map}
use Rattle.zq_base.specs.Message.{Frames}
use Rattle.zq_base.specs.declared.endpoint.Endpoint.{Endpoint}
use Rattle.zq_base.specs.declared.endpoint.Endpoint.TheVariants.{Inproc, Tcp}
use Rattle.spec_pattern.specs.PipeStep.{PipeStep}
use Rattle.spec_pattern.specs.Pattern.{Pattern}
use Rattle.spec_pattern.specs.Pattern as by_kind
use Rattle.spec_pattern.specs.PatternCalls.{PatternSends, PatternReceives, PatternChanges, Change, ChangeAnswer}
use Rattle.spec_pattern.specs.Topics.{Topic}
use Rattle.spec_pattern.specs.declared.answers.SendRefusal.TheVariants as send
use Rattle.spec_pattern.specs.declared.answers.RecvRefusal.TheVariants as recv
use Rattle.spec_pattern.specs.declared.answers.SendAnswer.{SendAnswer}
use Rattle.spec_pattern.specs.declared.answers.RecvAnswer.{RecvAnswer}
use Rattle.spec_control.specs.declared.request.Req.{Req}
use Rattle.spec_control.specs.declared.request.Req.TheVariants.{Bind, Connect, Unbind, Disconnect}
use Rattle.spec_control.specs.declared.request.Reply.{Reply}
use Rattle.spec_control.specs.Control.{id}
use Rattle.spec_control.specs.Reply.{root_asked}
use Rattle.spec_run.specs.declared.answer.Answer.TheVariants as answer
use Rattle.spec_run.specs.Line.{sent_answer, got_answer, changed_answer}
use Rattle.spec_control.specs.Moments.{Moment, left_by}
use Rattle.spec_run.specs.declared.answer.Answer.{Answer}
use Rattle.spec_run.specs.ControlAnswer.{reply_answer}
use Rattle.spec_run.specs.Act.{Act, Step, Try, moments_in}
use Rattle.spec_run.specs.OpenSocket.{OpenSock, can_write, PassesItems}
use Rattle.spec_run.specs.Event.{IsRequest, acts_said}

-- a ROUTER takes no connect over tcp
abbrev pub takes_connect : Pattern → Endpoint → Bool
takes_connect (by_kind.Router r) (Tcp address) = false
takes_connect (by_kind.Router r) (Inproc name) = true
takes_connect p to = true

module _ {N S : Type 0} where
  -- the steps of a kind, as acts
  abbrev pub step_acts : List PipeStep → List (Act N S)
  step_acts steps = map (λ step. Step step) steps

  -- a call does nothing and has this answer
  pub record RefusesCall (said_so : Answer) (old : OpenSock) (t : Try N S) (new : OpenSock) : Type 0 where
    pub call_is : t.call ≡ []
    pub skips_are : t.skips ≡ []
    pub answer_is : t.answer ≡ said_so
    pub new_is : new ≡ old

  pub record SendsOpen (m : Frames) (old : OpenSock) (t : Try N S) (new : OpenSock) : Type 0 where
    pub steps : List PipeStep
    pub sent : SendAnswer
    pub pattern : Pattern
    pub sends : PatternSends (can_write old) m old.pattern steps sent pattern
    pub call_is : t.call ≡ step_acts steps
    pub skips_are : t.skips ≡ []
    pub answer_is : t.answer ≡ sent_answer sent
    pub new_is : new ≡ record old { pattern = pattern }

  pub record ReceivesOpen (old : OpenSock) (t : Try N S) (new : OpenSock) : Type 0 where
    pub steps : List PipeStep
    pub got : RecvAnswer
    pub pattern : Pattern
    pub receives : PatternReceives old.pattern steps t.skips got pattern
    pub call_is : t.call ≡ step_acts steps
    pub answer_is : t.answer ≡ got_answer got
    pub new_is : new ≡ record old { pattern = pattern }

  -- a topic is subscribed to, or a subscription cancelled
  pub record ChangesOpen (change : Change) (topic : Topic) (old : OpenSock) (t : Try N S) (new : OpenSock) : Type 0 where
    pub steps : List PipeStep
    pub changed : ChangeAnswer
    pub pattern : Pattern
    pub changes : PatternChanges change (can_write old) topic old.pattern steps changed pattern
    pub call_is : t.call ≡ step_acts steps
    pub skips_are : t.skips ≡ []
    pub answer_is : t.answer ≡ changed_answer changed
    pub new_is : new ≡ record old { pattern = pattern }

  -- one request to the control plane
  pub record RequestsOnce (req : Req) (old : OpenSock) (t : Try N S) (new : OpenSock) : Type 0 where
    pub reply : Reply
    pub made : Moment N S
    pub request : IsRequest req reply made
    pub call_is : t.call ≡ acts_said made
    pub skips_are : t.skips ≡ []
    pub answer_is : t.answer ≡ reply_answer reply
    pub goes : PassesItems (made ∷ []) old new

  -- a socket that processed its Stop refuses, and else does this
  abbrev pub UnlessStopped : Bool → Answer → (OpenSock → Try N S → OpenSock → Type 0) → OpenSock → Try N S → OpenSock → Type 0
  UnlessStopped true stopped Does old t new = RefusesCall stopped old t new
  UnlessStopped false stopped Does old t new = Does old t new

  abbrev pub SendsCall : Frames → OpenSock → Try N S → OpenSock → Type 0
  SendsCall m old t new = UnlessStopped old.stopped (answer.NotSent send.Term) (SendsOpen m) old t new

  abbrev pub ReceivesCall : OpenSock → Try N S → OpenSock → Type 0
  ReceivesCall old t new = UnlessStopped old.stopped (answer.NotReceived recv.Term) ReceivesOpen old t new

  abbrev pub ChangesCall : Change → Topic → OpenSock → Try N S → OpenSock → Type 0
  ChangesCall change topic old t new = UnlessStopped old.stopped answer.Term (ChangesOpen change topic) old t new

  abbrev pub BindsCall : Endpoint → OpenSock → Try N S → OpenSock → Type 0
  BindsCall at old t new = RequestsOnce (Bind (id old.object) at) old t new

  -- the root was asked, as the last of these items left it
  abbrev pub leave_asked : List (Moment N S) → Bool
  leave_asked [] = false
  leave_asked (m ∷ []) = root_asked (left_by m)
  leave_asked (m ∷ n ∷ ms) = leave_asked (n ∷ ms)

  -- a kind that takes no such connect says so without a request, unless the socket is stopped or its pump found the root asked
  abbrev pub ConnectsWhere : (takes stopped : Bool) → Endpoint → OpenSock → Try N S → OpenSock → Type 0
  ConnectsWhere true stopped to old t new = RequestsOnce (Connect (id old.object) to) old t new
  ConnectsWhere false stopped to old t new = RefusesCall (if stopped || leave_asked (moments_in t.pump) then answer.Term else answer.NotSupported) old t new

  abbrev pub ConnectsCall : Endpoint → OpenSock → Try N S → OpenSock → Type 0
  ConnectsCall to old t new = ConnectsWhere (takes_connect old.pattern to) old.stopped to old t new

  abbrev pub UnbindsCall : Endpoint → OpenSock → Try N S → OpenSock → Type 0
  UnbindsCall at old t new = RequestsOnce (Unbind (id old.object) at) old t new

  abbrev pub DisconnectsCall : Endpoint → OpenSock → Try N S → OpenSock → Type 0
  DisconnectsCall at old t new = RequestsOnce (Disconnect (id old.object) at) old t new
