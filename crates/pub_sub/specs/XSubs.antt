-- An XSUB by its places (RFC 29, "The XSUB Socket Type").
use Rattle.std.specs.Prelude.{ℕ, Bool, List, Result, Ok, Err}
use Rattle.std.specs.Map.{keys_of}
use Rattle.zq_base.specs.Message.{Frames}
use Rattle.spec_pattern.specs.PipeStep.{PipeStep}
use Rattle.spec_pattern.specs.TurnList.{End}
use Rattle.spec_pattern.specs.Results.{SendResult, answer_of}
use Rattle.spec_pattern.specs.PatternCalls.{Subscribe, Unsubscribe}
use Rattle.spec_pattern.specs.Publishing.{Saying, Adds, Cancels, Other}
use Rattle.spec_pattern.specs.Subscribing.{XSubReceives, XSubSends}
use Rattle.spec_pattern.specs.declared.answers.Rule.TheVariants.{NoSub}
use Rattle.spec_pattern.specs.declared.answers.RecvAnswer.{RecvAnswer}
use Rattle.spec_pattern.specs.declared.answers.SendAnswer.{SendAnswer}
use Rattle.spec_pattern.specs.declared.answers.SendAnswer.TheVariants as sent
use Rattle.spec_pattern.specs.declared.answers.SendFault.TheVariants as send
use Rattle.spec_pattern.specs.declared.answers.SendRefusal.TheVariants.{SubLimit}
use Rattle.spec_pattern.specs.declared.answers.Sent.{Sent}
use Rattle.spec_pattern.specs.declared.answers.Sent.TheVariants as taken
use Rattle.pub_sub.specs.Places.{TellsOf}
use Rattle.pub_sub.specs.Subscribing.{SubState, subscriber_at, ChangesUntold}
use Rattle.pub_sub.specs.declared.change_fault.ChangeFault.{ChangeFault}
use Rattle.pub_sub.specs.declared.change_fault.ChangeFault.TheVariants as fault
use Rattle.pub_sub.specs.declared.xsend_fault.XSendFault.{XSendFault}
use Rattle.pub_sub.specs.declared.xsend_fault.XSendFault.TheVariants as xfault

-- of a send of the XSUB: its answer, or what holds where memory was wanting before anything was done, and where a change was made and wasn't told
abbrev pub MatchXSend : Result Sent XSendFault → Type 0 → Type 0 → (SendAnswer → Type 0) → Type 0
MatchXSend (Ok s) nothing untold P = P (answer_of s)
MatchXSend (Err (xfault.Refused refusal back)) nothing untold P = P (sent.Refused refusal)
MatchXSend (Err (xfault.OutOfMemory back)) nothing untold P = nothing
MatchXSend (Err xfault.Untold) nothing untold P = untold

-- of the message that a send hands back
abbrev pub IfXBack : Result Sent XSendFault → (Frames → Type 0) → Type 0
IfXBack (Ok s) P = Unit {0}
IfXBack (Err (xfault.Refused refusal back)) P = P back
IfXBack (Err (xfault.OutOfMemory back)) P = P back
IfXBack (Err xfault.Untold) P = Unit {0}

-- what a message that changes what is wanted is answered
abbrev pub sent_by : Result (Unit {0}) ChangeFault → Frames → Result Sent XSendFault
sent_by (Ok done) m = Ok taken.Subscribed
sent_by (Err fault.SubLimit) m = Err (xfault.Refused SubLimit m)
sent_by (Err fault.NotSub) m = Ok (taken.Dropped NoSub)
sent_by (Err fault.OutOfMemory) m = Err (xfault.OutOfMemory m)
sent_by (Err fault.Untold) m = Err xfault.Untold

-- what another message is answered
abbrev pub passed_on : SendResult → Result Sent XSendFault
passed_on (Ok s) = Ok s
passed_on (Err (send.Refused refusal back)) = Err (xfault.Refused refusal back)
passed_on (Err (send.OutOfMemory back)) = Err (xfault.OutOfMemory back)

module _ {S : Type 0} (runs : S → List PipeStep → S → Type 0) (ends : ℕ → End) where
  -- the calls between the two states made the steps of a receive of the XSUB
  pub record XSubGives (old new : S) (s : SubState) (answer : RecvAnswer) (s' : SubState) : Type 0 where
    pub steps : List PipeStep
    pub runs_are : runs old steps new
    pub step : XSubReceives (subscriber_at ends s) steps answer (subscriber_at ends s')

  -- the calls between the two states made the steps of a send of the XSUB
  pub record XSubSent (writable : ℕ → Bool) (m : Frames) (old new : S) (s : SubState) (answer : SendAnswer) (s' : SubState) : Type 0 where
    pub steps : List PipeStep
    pub runs_are : runs old steps new
    pub step : (can_write : End → Bool) → TellsOf can_write ends writable (keys_of s.followers)
        → XSubSends can_write m (subscriber_at ends s) steps answer (subscriber_at ends s')

  -- what was said changed what is wanted, and telling it met want of memory
  abbrev pub SaysUntold : (ℕ → Bool) → Saying → S → S → SubState → SubState → Type 0
  SaysUntold writable (Adds topic) old new s s' = ChangesUntold runs ends writable Subscribe topic old new s s'
  SaysUntold writable (Cancels topic) old new s s' = ChangesUntold runs ends writable Unsubscribe topic old new s s'
  SaysUntold writable Other old new s s' = ⊥
