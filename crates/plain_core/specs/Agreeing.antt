-- The open sockets of a core, as its calls are told of them (zmq_socket(3); own choice).
use Rattle.std.specs.Prelude.{◌≡◌, ◌+◌, ◌<◌, ℕ, false, [], Option, Some, None}
use Rattle.spec_control.specs.Control.{begun, next_object}
use Rattle.spec_control.specs.ControlRun.{after_all}
use Rattle.msg_pipe.specs.Known.{Known}
use Rattle.spec_run.specs.OpenSocket.{OpenSock}
use Rattle.desk.specs.declared.given.Given.{Given}
use Rattle.desk.specs.Desk.{slot_after}
use Rattle.any_sock.specs.declared.any_sock.AnySock.{AnySock}
use Rattle.sock_core.specs.declared.sock.SockCore.{SockCore}
use Rattle.sock_calls.specs.Calls.{owner_of}
use Rattle.line_socket.specs.View.{open_view}
use Rattle.plain_desk.specs.Lent.{moments_of}
use Rattle.line_socket.specs.Owned.{parts}
use Rattle.line_socket.specs.Ready.{IsReady}
use Rattle.core_laws.specs.Agrees.{AgreesIn}
use Rattle.core_laws.specs.Calls.{for_caller}
use Rattle.plain_core.specs.Sound.{Core}

-- an open socket as it is told: its mailbox is that of its number, behind the I/O worker's
abbrev pub as_open : {W N O I : Type 0} → Option (SockCore AnySock W N O I) → OpenSock
as_open s = open_view (1 + owner_of s) s

-- an object of this number was made
abbrev pub was_made : {P G N S : Type 0} → Core P G N S → ℕ → Type 0
was_made w o = o < next_object (after_all w.desk.items (begun 1))

module _ (W : Type 0) {S N O I T : Type 0} (K : Known S O I N) where
  -- the socket is one of this caller's, as what was done left it: by the one order, in the mailbox of its number, and ready for a call unless memory was wanting
  pub record IsAgreed (w : Core S (Given N O I) N T) (k : ℕ) (s : SockCore AnySock W N O I) : Type 0 where
    pub agrees : AgreesIn K w.desk k w.pipes s
    pub box : (slot_after s.number.0 (moments_of (for_caller k w.desk))).0 ≡ 1 + s.number.0
    pub ready : w.wanted ≡ false → IsReady (parts w.pipes (for_caller k w.desk) (Some s) [])

  -- a socket is there, and is so
  abbrev pub Agrees : Core S (Given N O I) N T → ℕ → Option (SockCore AnySock W N O I) → Type 0
  Agrees w k None = ⊥
  Agrees w k (Some s) = IsAgreed w k s
