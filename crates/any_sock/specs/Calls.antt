-- What a call of a socket of any kind does over its attached ends (zmq_socket(3)).
use Rattle.std.specs.Prelude.{◌≡◌, ℕ, Bool, true, List, ◌++◌, Option, Some, None, Result, Ok, Err}
use Rattle.zq_base.specs.Message.{Frames}
use Rattle.spec_pattern.specs.PipeStep.{PipeStep}
use Rattle.spec_pattern.specs.TurnList.{End}
use Rattle.spec_pattern.specs.Topics.{Topic}
use Rattle.spec_pattern.specs.Subscribing.{Done, Limit, NotSub}
use Rattle.spec_pattern.specs.PatternCalls.{PatternSends, PatternReceives, PatternPumps, PatternChanges, Change, ChangeAnswer, NoTopics, Changed}
use Rattle.spec_pattern.specs.Results.{RecvResult, MatchRecv}
use Rattle.spec_pattern.specs.declared.answers.SendAnswer.{SendAnswer}
use Rattle.spec_pattern.specs.declared.answers.RecvAnswer.{RecvAnswer}
use Rattle.spec_pattern.specs.declared.answers.Skip.{Skip}
use Rattle.router_dealer.specs.Named.{Kept, GivesKept}
use Rattle.spec_pattern.specs.AtPlaces.{TellsWritable}
use Rattle.pub_sub.specs.Places.{AreApart}
use Rattle.pub_sub.specs.declared.change_fault.ChangeFault as followed
use Rattle.pub_sub.specs.declared.change_fault.ChangeFault.TheVariants as follow
use Rattle.any_sock.specs.Over.{IsReadingOf, peer_places, over, caught_up, as_received, left_of}
use Rattle.any_sock.specs.Stopped.{StopsReceive, StopsPump, StopsSend, StopsChange}
use Rattle.any_sock.specs.declared.any_sock.AnySock.{AnySock}
use Rattle.any_sock.specs.declared.any_sock.AnySock.TheVariants as sock
use Rattle.any_sock.specs.declared.change_fault.ChangeFault.{ChangeFault}
use Rattle.any_sock.specs.declared.change_fault.ChangeFault.TheVariants as fault

-- whether a send may need memory: a PUSH's, a PULL's, a PAIR's, a DEALER's and a SUB's never does, and a ROUTER's only to hand a message back
abbrev pub SendNeedsMemory : AnySock → Type 0
SendNeedsMemory (sock.Push turns) = ⊥
SendNeedsMemory (sock.Pull turns) = ⊥
SendNeedsMemory (sock.Pair turns) = ⊥
SendNeedsMemory (sock.Dealer t) = ⊥
SendNeedsMemory (sock.Router r) = r.mandatory ≡ true
SendNeedsMemory (sock.Sub s) = ⊥
SendNeedsMemory _ = Unit {0}

-- a send met want of memory, and changed nothing
pub record SendUndone {S : Type 0} (old new : S) (s s' : AnySock) : Type 0 where
  pub needs : SendNeedsMemory s
  pub stays : s' ≡ s
  pub peers_stay : new ≡ old

-- of a change of topics: its answer, or what holds where memory was wanting before it was made, and where it was made and wasn't told
abbrev pub MatchChanged : Result (Unit {0}) ChangeFault → Type 0 → Type 0 → (ChangeAnswer → Type 0) → Type 0
MatchChanged (Ok done) nothing untold P = P (Changed Done)
MatchChanged (Err fault.NoTopics) nothing untold P = P NoTopics
MatchChanged (Err fault.SubLimit) nothing untold P = P (Changed Limit)
MatchChanged (Err fault.NotSub) nothing untold P = P (Changed NotSub)
MatchChanged (Err fault.OutOfMemory) nothing untold P = nothing
MatchChanged (Err fault.Untold) nothing untold P = untold

-- what a change at a subscriber is answered
abbrev pub of_subscriber : Result (Unit {0}) followed.ChangeFault → Result (Unit {0}) ChangeFault
of_subscriber (Ok done) = Ok done
of_subscriber (Err follow.SubLimit) = Err fault.SubLimit
of_subscriber (Err follow.NotSub) = Err fault.NotSub
of_subscriber (Err follow.OutOfMemory) = Err fault.OutOfMemory
of_subscriber (Err follow.Untold) = Err fault.Untold

-- whether the socket has topics of its own
abbrev pub HasTopics : AnySock → Type 0
HasTopics (sock.Sub s) = Unit {0}
HasTopics (sock.XSub s) = Unit {0}
HasTopics _ = ⊥

-- a change of topics met want of memory, and changed nothing
pub record ChangeUndone {S : Type 0} (old new : S) (s s' : AnySock) : Type 0 where
  pub needs : HasTopics s
  pub stays : s' ≡ s
  pub peers_stay : new ≡ old

module _ {S : Type 0} (runs : S → List PipeStep → S → Type 0) (ends : ℕ → End) where
  -- ---- sending

  -- the calls between the two states of the peers made the steps of a send of the socket
  pub record SentOver (writable : ℕ → Bool) (m : Frames) (old new : S) (s : AnySock) (answer : SendAnswer) (s' : AnySock) : Type 0 where
    pub steps : List PipeStep
    pub runs_are : runs old steps new
    pub step : (can_write : End → Bool) → IsReadingOf can_write ends writable s
        → PatternSends can_write m (over ends s) steps answer (over ends s')

  -- a message was a subscription or a cancel and was obeyed, and telling it met want of memory
  pub record SaidUntold (writable : ℕ → Bool) (m : Frames) (old new : S) (s s' : AnySock) : Type 0 where
    pub steps : List PipeStep
    pub runs_are : runs old steps new
    pub step : StopsSend (λ can_write. TellsWritable can_write ends writable (peer_places s)) m (over ends s) steps (over ends s')

  -- ---- receiving

  -- the calls made the steps of a receive, and what it dropped was told; what was left to obey came first
  pub record GotOver (old new : S) (told told' : List Skip) (s : AnySock) (answer : RecvAnswer) (s' : AnySock) : Type 0 where
    pub steps : List PipeStep
    pub runs_are : runs old steps new
    pub skips : List Skip
    pub step : AreApart ends (peer_places s)
        → PatternReceives (over ends (as_received ends s)) steps skips answer (over ends s')
    pub told_are : told' ≡ told ++ skips
    pub left_is : left_of s' ≡ left_of (as_received ends s)

  -- a receive met want of memory: what it did before stays done, and what it dropped was told
  pub record RecvStopped (old new : S) (told told' : List Skip) (s s' : AnySock) : Type 0 where
    pub steps : List PipeStep
    pub runs_are : runs old steps new
    pub skips : List Skip
    pub step : AreApart ends (peer_places s)
        → StopsReceive (over ends (as_received ends s)) steps skips (left_of s').to_give (over ends (as_received ends s'))
    pub told_are : told' ≡ told ++ skips

  -- a message was left to be given: it is given without a step, or is left still for want of memory
  pub record GivesLeft (k : Kept) (old new : S) (told told' : List Skip) (s : AnySock) (result : RecvResult) (s' : AnySock) : Type 0 where
    pub peers_stay : new ≡ old
    pub told_stay : told' ≡ told
    pub stays : over ends s' ≡ over ends s
    pub gives : GivesKept k result (left_of s').to_give

  -- what a receive did, by its result
  abbrev pub RecvDone : Option Kept → S → S → List Skip → List Skip → AnySock → RecvResult → AnySock → Type 0
  RecvDone None old new told told' s result s' =
      MatchRecv result (RecvStopped old new told told' s s') (λ answer. GotOver old new told told' s answer s')
  RecvDone (Some k) old new told told' s result s' = GivesLeft k old new told told' s result s'

  -- ---- what comes before a call

  -- the calls made the steps of what comes before a call: a publisher hears its peers, a subscriber tells them
  pub record PumpedOver (writable : ℕ → Bool) (old new : S) (s s' : AnySock) : Type 0 where
    pub steps : List PipeStep
    pub runs_are : runs old steps new
    pub step : (can_write : End → Bool) → IsReadingOf can_write ends writable s
        → PatternPumps can_write (over ends (caught_up ends s)) steps (over ends s')
    pub left_is : left_of s' ≡ left_of (caught_up ends s)

  -- it met want of memory: what it did before stays done
  pub record PumpStopped (writable : ℕ → Bool) (old new : S) (s s' : AnySock) : Type 0 where
    pub steps : List PipeStep
    pub runs_are : runs old steps new
    pub step : AreApart ends (peer_places s) → StopsPump (λ can_write. TellsWritable can_write ends writable (peer_places s))
        (over ends (caught_up ends s)) steps (over ends (caught_up ends s'))

  -- ---- topics

  -- the calls made the steps of a subscription to the topic, or of a cancel
  pub record ChangedOver (writable : ℕ → Bool) (change : Change) (topic : Topic) (old new : S) (s : AnySock) (answer : ChangeAnswer) (s' : AnySock) : Type 0 where
    pub steps : List PipeStep
    pub runs_are : runs old steps new
    pub step : (can_write : End → Bool) → IsReadingOf can_write ends writable s
        → PatternChanges change can_write topic (over ends s) steps answer (over ends s')

  -- a change was made, and telling it met want of memory
  pub record ChangeUntold (writable : ℕ → Bool) (change : Change) (topic : Topic) (old new : S) (s s' : AnySock) : Type 0 where
    pub steps : List PipeStep
    pub runs_are : runs old steps new
    pub step : StopsChange (λ can_write. TellsWritable can_write ends writable (peer_places s)) change topic (over ends s) steps (over ends s')
