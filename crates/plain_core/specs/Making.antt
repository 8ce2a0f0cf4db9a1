-- What the making of a socket gives (zmq_socket(3); own choice).
use Rattle.std.specs.Prelude.{ℕ, Option, Some, None}
use Rattle.zq_base.specs.declared.kind.Kind.{Kind}
use Rattle.zq_base.specs.declared.options.Options.{Options}
use Rattle.msg_pipe.specs.Known.{Known}
use Rattle.spec_control.specs.declared.request.Reply.{Reply}
use Rattle.spec_control.specs.declared.request.Reply.TheVariants.{Done, Object, Pair, Both, Wait, Asked, Before, Refused}
use Rattle.zq_world.specs.declared.made.Made.{Made}
use Rattle.zq_world.specs.declared.made.Made.TheVariants as made
use Rattle.any_sock.specs.declared.any_sock.AnySock.{AnySock}
use Rattle.sock_core.specs.declared.sock.SockCore.{SockCore}
use Rattle.line_socket.specs.Standing.{IsStanding}
use Rattle.plain_core.specs.Fresh.{IsFresh}

-- the reply is a number or a refusal
abbrev pub MakesOrRefuses : Reply → Type 0
MakesOrRefuses Done = ⊥
MakesOrRefuses (Object o) = Unit {0}
MakesOrRefuses (Pair p) = ⊥
MakesOrRefuses (Both o p) = ⊥
MakesOrRefuses Wait = ⊥
MakesOrRefuses Asked = ⊥
MakesOrRefuses Before = ⊥
MakesOrRefuses (Refused refusal) = Unit {0}

module _ {W S N O I : Type 0} (K : Known S O I N) (kind : Kind) (options : Options) where
  -- a socket of this number is as it is at its making, whatever pipes there are
  pub record IsFreshOf (number : ℕ) (s : SockCore AnySock W N O I) : Type 0 where
    pub fresh : IsFresh number kind options s
    pub stands : (pipes : S) → IsStanding K pipes s

  -- so is the one that was made, if any was
  abbrev pub IsFreshMade : Made (Option (SockCore AnySock W N O I)) → Type 0
  IsFreshMade (made.Socket object None) = ⊥
  IsFreshMade (made.Socket object (Some socket)) = IsFreshOf object.0 socket
  IsFreshMade (made.Refused refusal) = Unit {0}
