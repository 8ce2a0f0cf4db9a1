-- An open socket of a core can be lent for a call (own choice).
use Rattle.std.specs.Prelude.{◌≡◌, ℕ, false, [], Some}
use Rattle.msg_pipe.specs.Known.{Known}
use Rattle.desk.specs.declared.given.Given.{Given}
use Rattle.any_sock.specs.declared.any_sock.AnySock.{AnySock}
use Rattle.sock_core.specs.declared.sock.SockCore.{SockCore}
use Rattle.plain_desk.specs.Lent.{IsOneOrder}
use Rattle.line_socket.specs.Owned.{parts, view_of, IsLentTo, MayTakeEnds}
use Rattle.line_socket.specs.Ready.{IsReady}
use Rattle.core_laws.specs.Calls.{for_caller}
use Rattle.plain_core.specs.Agreeing.{as_open, IsAgreed}
use Rattle.plain_core.specs.Sound.{Core, IsCore}

module _ {W S N O I T : Type 0} (K : Known S O I N) where
  -- with the core's pipes, and its desk as its caller has it, it is as its caller's moments left it, takes the ends that are on their way to it, is ready unless memory was wanting, and is told as the core tells it
  pub record CanBeLent (w : Core S (Given N O I) N T) (k : ℕ) (s : SockCore AnySock W N O I) : Type 0 where
    pub lent : IsLentTo K w.pipes (for_caller k w.desk) 0 s
    pub takes : MayTakeEnds K (parts w.pipes (for_caller k w.desk) (Some s) [])
    pub ready : w.wanted ≡ false → IsReady (parts w.pipes (for_caller k w.desk) (Some s) [])
    pub view : view_of (parts w.pipes (for_caller k w.desk) (Some s) []) ≡ as_open (Some s)

-- so can each that agrees
abbrev pub SocketsCanBeLent : (W T : Type 0) → {S N O I : Type 0} → Known S O I N → Type 0
SocketsCanBeLent W T {S} {N} {O} {I} K = (w : Core S (Given N O I) N T) → IsCore K w → IsOneOrder w.desk →
    (k : ℕ) (s : SockCore AnySock W N O I) → IsAgreed W K w k s → CanBeLent K w k s
