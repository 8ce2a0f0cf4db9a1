-- A socket of a core that its caller has open, between the calls of the core (own choice).
use Rattle.std.specs.Prelude.{ℕ, Some, map}
use Rattle.spec_control.specs.Names.{name_of}
use Rattle.msg_pipe.specs.Known.{Known}
use Rattle.desk.specs.declared.given.Given.{Given}
use Rattle.ctl_plane.specs.Past.{control_of}
use Rattle.desk.specs.Coming.{BindsFit}
use Rattle.desk.specs.Desk.{slot_after}
use Rattle.any_sock.specs.declared.any_sock.AnySock.{AnySock}
use Rattle.sock_core.specs.declared.sock.SockCore.{SockCore}
use Rattle.sock_calls.specs.Calls.{MayJoin}
use Rattle.socket_laws.specs.Asked.{WereAsked}
use Rattle.line_socket.specs.Owned.{IsOwned}
use Rattle.plain_desk.specs.Lent.{coming_to, Lent, moments_of}
use Rattle.core_laws.specs.Calls.{for_caller}

module _ {W N O I S T : Type 0} (K : Known S O I N) where
  -- it is as its caller's moments left it, each end that it was told to seal was asked, and the halves on their way to it may join it
  pub record AgreesIn (d : Lent (Given N O I) N T) (k : ℕ) (pipes : S) (s : SockCore AnySock W N O I) : Type 0 where
    pub owned : IsOwned K k (moments_of (for_caller k d)) pipes s
    pub asked : WereAsked (control_of d.past) (map (λ x. x.0) s.sealed.items)
    pub binds : BindsFit K.out_name K.in_name (name_of d.items) (coming_to d (slot_after s.number.0 (moments_of (for_caller k d))).0) (MayJoin K pipes (Some s))
