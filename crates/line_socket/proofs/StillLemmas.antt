-- A lent socket stands behind one moment more that is of it.
use Rattle.std.proofs.Common.{◌≡◌, ℕ, Bool, true, [], ◌∷◌, ◌++◌, Some}
use Rattle.zq_base.specs.declared.ids.EndId.{EndId}
use Rattle.spec_control.specs.Moments.{Moment, items_in}
use Rattle.spec_control.specs.OwnAsks.{known_after}
use Rattle.desk.specs.declared.given.Given.{Given}
use Rattle.msg_pipe.specs.Known.{Known}
use Rattle.any_sock.specs.declared.any_sock.AnySock.{AnySock}
use Rattle.sock_core.specs.declared.sock.SockCore.{SockCore}
use Rattle.line_socket.specs.Standing.{IsStanding}
use Rattle.socket_laws.specs.Open.{IsOfItem}
use Rattle.plain_desk.specs.Lent.{Lent, moments_of}
use Rattle.line_socket.specs.Owned.{IsLentTo}
use Rattle.line_socket.specs.Called.{IsCalled}
use Rattle.line_socket.proofs.BehindLemmas.{stands_so}
use Rattle.line_socket.proofs.MovesLemmas.{same_number, joined_are, open_now, holds_now}
use Rattle.line_socket.proofs.SealedLemmas.{sealed_now}

module _ {W N O I S T : Type 0} {made : Bool} {may_make : EndId → ℕ → ℕ → Type 0} (K : Known S O I N) (before now : S) (d e : Lent (Given N O I) N T) (n : ℕ) (s t : SockCore AnySock W N O I)
    (is : IsLentTo K before d n s) (called : IsCalled K made may_make before d (Some s) now e (Some t)) (mo : Moment N T) (more : moments_of e ≡ moments_of d ++ mo ∷ [])
    (of_it : IsOfItem s.number.0 mo.found mo.item) (still : (known_after s.number.0 (items_in (moments_of e))).open_socket ≡ true) where
  abbrev o : ℕ
  o = s.number.0

  pub stands_now : IsStanding K now t
  stands_now = stands_so K now e o t (same_number K before now d e n s t is called mo more of_it still) called.order called.keeps.has still
      (holds_now K before now d e n s t is called mo more of_it still) (joined_are K before now d e n s t is called mo more of_it still) called.fits
      (open_now K before now d e n s t is called mo more of_it still) (sealed_now K before now d e n s t is called mo more of_it still)
