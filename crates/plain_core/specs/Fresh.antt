-- A socket at its making (zmq_socket(3); own choice).
use Rattle.std.specs.Prelude.{ℕ, false, []}
use Rattle.zq_base.specs.declared.kind.Kind.{Kind}
use Rattle.zq_base.specs.declared.options.Options.{Options}
use Rattle.any_sock.specs.declared.any_sock.AnySock.{AnySock}
use Rattle.any_sock.specs.Fresh.{IsWithoutPeers}
use Rattle.sock_core.specs.declared.sock.SockCore.{SockCore}
use Rattle.sock_core.specs.Has.{IsNew}
use Rattle.spec_pattern.specs.NewSocket.{new_pattern}
use Rattle.spec_run.specs.OpenSocket.{OpenSock}

-- a socket of this number, with this mailbox, as a run tells it at its making
abbrev pub open_at : (slot number : ℕ) → Kind → Options → OpenSock
open_at slot number kind options = record { object = number; slot = slot; stopped = false; pattern = new_pattern kind options; ends = [] }

-- an open socket of the kind, that was told nothing and has neither peers nor ends
pub record IsFresh {W N O I : Type 0} (number : ℕ) (kind : Kind) (options : Options) (s : SockCore AnySock W N O I) : Type 0 where
  pub is_new : IsNew number s.kind s
  pub without : IsWithoutPeers kind options s.kind
