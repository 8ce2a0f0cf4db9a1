-- What a call of the control plane leaves a lent socket with (own choice).
use Rattle.std.specs.Prelude.{◌≡◌, ℕ, Bool, Option}
use Rattle.zq_base.specs.declared.ids.EndId.{EndId}
use Rattle.spec_control.specs.Names.{name_of}
use Rattle.desk.specs.declared.given.Given.{Given}
use Rattle.desk.specs.Coming.{KeepsNames}
use Rattle.desk.specs.Desk.{KeepsUp}
use Rattle.msg_pipe.specs.Known.{Known}
use Rattle.any_sock.specs.declared.any_sock.AnySock.{AnySock}
use Rattle.any_sock.specs.Over.{peer_places}
use Rattle.sock_core.specs.declared.sock.SockCore.{SockCore}
use Rattle.sock_calls.specs.Calls.{owner_of, holding_of, FitsPipes, LeavesOthers, HaveDone}
use Rattle.line_socket.specs.Standing.{kind_told}
use Rattle.plain_desk.specs.Lent.{Lent, GrowsBy, IsOneOrder, moments_of}

module _ {W N O I S T : Type 0} (K : Known S O I N) where
  -- its caller's moments more are at the end of the one order, and the socket has what they say; the ends of others are left, and its own pipes were changed one after the other
  pub record IsCalled (made : Bool) (may_make : EndId → ℕ → ℕ → Type 0) (before : S) (d : Lent (Given N O I) N T) (old : Option (SockCore AnySock W N O I)) (now : S) (e : Lent (Given N O I) N T) (new : Option (SockCore AnySock W N O I)) : Type 0 where
    pub grows : GrowsBy d e
    pub order : IsOneOrder e
    pub names : KeepsNames (name_of d.items) (name_of e.items)
    pub keeps : KeepsUp e.caller (moments_of d) (moments_of e) (holding_of kind_told old) (holding_of kind_told new)
    pub owner : owner_of new ≡ owner_of old
    pub fits : FitsPipes K peer_places now new
    pub others : LeavesOthers K old new before now
    -- where pipes were made, each end that joined has halves of those that were made for it
    pub does : HaveDone K made may_make old new before now
