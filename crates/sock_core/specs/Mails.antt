-- What a call on messages of a socket does over its own ends (zmq_msg_send(3), zmq_msg_recv(3), zmq_setsockopt(3) "ZMQ_SUBSCRIBE").
use Rattle.std.specs.Prelude.{◌≡◌, ℕ, Bool, List, ◌++◌, Option, Some, None}
use Rattle.zq_base.specs.Message.{Frames}
use Rattle.zq_base.specs.declared.ids.EndId.{EndId}
use Rattle.spec_pattern.specs.PipeStep.{PipeStep}
use Rattle.spec_pattern.specs.Topics.{Topic}
use Rattle.spec_pattern.specs.PatternCalls.{PatternSends, PatternReceives, PatternPumps, PatternChanges, Change, ChangeAnswer}
use Rattle.spec_pattern.specs.Results.{RecvResult, MatchRecv}
use Rattle.spec_pattern.specs.declared.answers.SendAnswer.{SendAnswer}
use Rattle.spec_pattern.specs.declared.answers.RecvAnswer.{RecvAnswer}
use Rattle.spec_pattern.specs.declared.answers.Skip.{Skip}
use Rattle.msg_pipe.specs.Known.{Known}
use Rattle.router_dealer.specs.Named.{Kept, GivesKept}
use Rattle.any_sock.specs.Over.{over, caught_up, as_received, left_of}
use Rattle.any_sock.specs.Calls.{SendNeedsMemory, HasTopics}
use Rattle.any_sock.specs.Stopped.{StopsReceive, StopsPump, StopsSend, StopsChange}
use Rattle.sock_core.specs.Lent.{Lent, Makes, IsNaming, IsTest}

module _ {S N O I : Type 0} (K : Known S O I N) where
  -- ---- sending

  -- the socket was asked to send, and answered
  pub record SendsHere (m : Frames) (old : Lent S N O I) (answer : SendAnswer) (new : Lent S N O I) : Type 0 where
    pub steps : List PipeStep
    pub makes : Makes K old steps new
    pub sends : (ends : ℕ → EndId) (test : EndId → Bool) → IsNaming ends old.places → IsTest test old.places
        → PatternSends test m (over ends old.kind) steps answer (over ends new.kind)

  -- a subscription or a cancel that it was asked to send was obeyed, and telling it met want of memory
  pub record SaysHere (m : Frames) (old new : Lent S N O I) : Type 0 where
    pub steps : List PipeStep
    pub makes : Makes K old steps new
    pub says : (ends : ℕ → EndId) → IsNaming ends old.places
        → StopsSend (λ test. IsTest test old.places) m (over ends old.kind) steps (over ends new.kind)

  -- ---- receiving

  -- the socket was asked to receive, and answered; what was left to obey came first
  pub record ReceivesHere (told told' : List Skip) (old : Lent S N O I) (answer : RecvAnswer) (new : Lent S N O I) : Type 0 where
    pub steps : List PipeStep
    pub makes : Makes K old steps new
    pub skips : List Skip
    pub receives : (ends : ℕ → EndId) → IsNaming ends old.places
        → PatternReceives (over ends (as_received ends old.kind)) steps skips answer (over ends new.kind)
    pub told_are : told' ≡ told ++ skips
    pub left_is : (ends : ℕ → EndId) → left_of new.kind ≡ left_of (as_received ends old.kind)

  -- a receive met want of memory: what it did before stays done
  pub record StopsHere (told told' : List Skip) (old new : Lent S N O I) : Type 0 where
    pub steps : List PipeStep
    pub makes : Makes K old steps new
    pub skips : List Skip
    pub stops : (ends : ℕ → EndId) → IsNaming ends old.places
        → StopsReceive (over ends (as_received ends old.kind)) steps skips (left_of new.kind).to_give (over ends (as_received ends new.kind))
    pub told_are : told' ≡ told ++ skips

  -- a message that was left is given without a step, or is left still for want of memory
  pub record GivesHere (k : Kept) (told told' : List Skip) (old : Lent S N O I) (result : RecvResult) (new : Lent S N O I) : Type 0 where
    pub pipes_stay : new.pipes ≡ old.pipes
    pub rows_stay : new.rows ≡ old.rows
    pub kind_stays : (ends : ℕ → EndId) → IsNaming ends old.places → over ends new.kind ≡ over ends old.kind
    pub told_stay : told' ≡ told
    pub gives : GivesKept k result (left_of new.kind).to_give

  abbrev pub ReceiveDone : Option Kept → List Skip → List Skip → Lent S N O I → RecvResult → Lent S N O I → Type 0
  ReceiveDone None told told' old result new = MatchRecv result (StopsHere told told' old new) (λ answer. ReceivesHere told told' old answer new)
  ReceiveDone (Some k) told told' old result new = GivesHere k told told' old result new

  -- ---- what comes before a call

  -- a publisher heard its peers, or a subscriber told them; what was left to obey came first
  pub record PumpsHere (old new : Lent S N O I) : Type 0 where
    pub steps : List PipeStep
    pub makes : Makes K old steps new
    pub pumps : (ends : ℕ → EndId) (test : EndId → Bool) → IsNaming ends old.places → IsTest test old.places
        → PatternPumps test (over ends (caught_up ends old.kind)) steps (over ends new.kind)
    pub left_is : (ends : ℕ → EndId) → left_of new.kind ≡ left_of (caught_up ends old.kind)

  -- it met want of memory: what it did before stays done
  pub record PumpStopsHere (old new : Lent S N O I) : Type 0 where
    pub steps : List PipeStep
    pub makes : Makes K old steps new
    pub stops : (ends : ℕ → EndId) → IsNaming ends old.places
        → StopsPump (λ test. IsTest test old.places) (over ends (caught_up ends old.kind)) steps (over ends (caught_up ends new.kind))

  -- ---- topics

  -- a topic was subscribed to, or a subscription cancelled, and the socket answered
  pub record ChangesHere (change : Change) (topic : Topic) (old : Lent S N O I) (answer : ChangeAnswer) (new : Lent S N O I) : Type 0 where
    pub steps : List PipeStep
    pub makes : Makes K old steps new
    pub changes : (ends : ℕ → EndId) (test : EndId → Bool) → IsNaming ends old.places → IsTest test old.places
        → PatternChanges change test topic (over ends old.kind) steps answer (over ends new.kind)

  -- it was made, and telling it met want of memory
  pub record ChangeUntoldHere (change : Change) (topic : Topic) (old new : Lent S N O I) : Type 0 where
    pub steps : List PipeStep
    pub makes : Makes K old steps new
    pub says : (ends : ℕ → EndId) → IsNaming ends old.places
        → StopsChange (λ test. IsTest test old.places) change topic (over ends old.kind) steps (over ends new.kind)

-- a call that met want of memory before it did anything left all as it was
pub record Undone {S N O I : Type 0} (old new : Lent S N O I) : Type 0 where
  pub pipes_stay : new.pipes ≡ old.pipes
  pub rows_stay : new.rows ≡ old.rows
  pub kind_stays : new.kind ≡ old.kind

pub record SendUndoneHere {S N O I : Type 0} (old new : Lent S N O I) : Type 0 where
  pub needs : SendNeedsMemory old.kind
  pub stays : Undone old new

pub record ChangeUndoneHere {S N O I : Type 0} (old new : Lent S N O I) : Type 0 where
  pub needs : HasTopics old.kind
  pub stays : Undone old new
