-- What a call on messages of an open socket does, as a run tells it (zmq_msg_send(3), zmq_msg_recv(3)).
use Rattle.std.specs.Prelude.{◌≡◌, ◌++◌, ℕ, List, Option, Some, None}
use Rattle.zq_base.specs.Message.{Frames}
use Rattle.spec_pattern.specs.PipeStep.{PipeStep}
use Rattle.spec_pattern.specs.Pattern.{Pattern}
use Rattle.spec_pattern.specs.PatternCalls.{PatternSends, PatternReceives, PatternPumps, PatternChanges, Change, ChangeAnswer}
use Rattle.spec_pattern.specs.Topics.{Topic}
use Rattle.spec_pattern.specs.declared.answers.Skip.{Skip}
use Rattle.spec_pattern.specs.declared.answers.SendAnswer.{SendAnswer}
use Rattle.spec_pattern.specs.declared.answers.RecvAnswer.{RecvAnswer}
use Rattle.msg_pipe.specs.Known.{Known}
use Rattle.any_sock.specs.declared.any_sock.AnySock.{AnySock}
use Rattle.sock_core.specs.declared.sock.SockCore.{SockCore}
use Rattle.sock_core.specs.Lent.{Makes}
use Rattle.sock_core.specs.Holding.{lent_in}
use Rattle.spec_run.specs.OpenSocket.{can_write}
use Rattle.line_socket.specs.View.{open_view}

module _ {S W N O I : Type 0} (K : Known S O I N) where
  -- calls at the ends of a socket that is there made these steps
  abbrev pub MakesSteps : S → Option (SockCore AnySock W N O I) → List PipeStep → S → Option (SockCore AnySock W N O I) → Type 0
  MakesSteps before None steps now new = ⊥
  MakesSteps before (Some s) steps now None = ⊥
  MakesSteps before (Some s) steps now (Some t) = Makes K (lent_in before s) steps (lent_in now t)

  pub record MakesSome (before : S) (old : Option (SockCore AnySock W N O I)) (now : S) (new : Option (SockCore AnySock W N O I)) : Type 0 where
    pub steps : List PipeStep
    pub makes : MakesSteps before old steps now new

  module _ (slot : ℕ) where
    -- the kind heard or told its peers
    pub record PumpsOpen (before : S) (old : Option (SockCore AnySock W N O I)) (now : S) (new : Option (SockCore AnySock W N O I)) : Type 0 where
      pub steps : List PipeStep
      pub makes : MakesSteps before old steps now new
      pub pattern : Pattern
      pub pumps : PatternPumps (can_write (open_view slot old)) (open_view slot old).pattern steps pattern
      pub new_is : open_view slot new ≡ record (open_view slot old) { pattern = pattern }

    -- a message was sent, or refused
    pub record SendsSo (m : Frames) (answer : SendAnswer) (before : S) (old : Option (SockCore AnySock W N O I)) (now : S) (new : Option (SockCore AnySock W N O I)) : Type 0 where
      pub steps : List PipeStep
      pub makes : MakesSteps before old steps now new
      pub pattern : Pattern
      pub sends : PatternSends (can_write (open_view slot old)) m (open_view slot old).pattern steps answer pattern
      pub new_is : open_view slot new ≡ record (open_view slot old) { pattern = pattern }

    -- a message was received, or none; those that were dropped are told behind those told before
    pub record ReceivesSo (told told_now : List Skip) (answer : RecvAnswer) (before : S) (old : Option (SockCore AnySock W N O I)) (now : S) (new : Option (SockCore AnySock W N O I)) : Type 0 where
      pub steps : List PipeStep
      pub makes : MakesSteps before old steps now new
      pub skips : List Skip
      pub pattern : Pattern
      pub receives : PatternReceives (open_view slot old).pattern steps skips answer pattern
      pub tells : told_now ≡ told ++ skips
      pub new_is : open_view slot new ≡ record (open_view slot old) { pattern = pattern }

    -- a topic was subscribed to, or a subscription cancelled
    pub record ChangesSo (change : Change) (topic : Topic) (answer : ChangeAnswer) (before : S) (old : Option (SockCore AnySock W N O I)) (now : S) (new : Option (SockCore AnySock W N O I)) : Type 0 where
      pub steps : List PipeStep
      pub makes : MakesSteps before old steps now new
      pub pattern : Pattern
      pub changes : PatternChanges change (can_write (open_view slot old)) topic (open_view slot old).pattern steps answer pattern
      pub new_is : open_view slot new ≡ record (open_view slot old) { pattern = pattern }
