-- What a lent socket has for a call of the control plane.
use Rattle.std.proofs.Common.{◌≡◌, ℕ, true, Option, Some, None}
use Rattle.spec_control.specs.Moments.{items_in}
use Rattle.spec_control.specs.OwnAsks.{known_after}
use Rattle.desk.specs.declared.given.Given.{Given}
use Rattle.desk.specs.Desk.{HasWhatTheySay, slot_after}
use Rattle.socket_laws.proofs.SocketLemmas.{sockets_are_alone}
use Rattle.msg_pipe.specs.Known.{Known}
use Rattle.any_sock.specs.declared.any_sock.AnySock.{AnySock}
use Rattle.any_sock.specs.Over.{peer_places}
use Rattle.sock_core.specs.declared.sock.SockCore.{SockCore}
use Rattle.sock_calls.specs.Calls.{owner_of, holding_of, FitsPipes}
use Rattle.line_socket.specs.Standing.{kind_told}
use Rattle.plain_desk.specs.Lent.{Lent, moments_of}
use Rattle.plain_desk.specs.Reaping.{served_by}
use Rattle.line_socket.specs.Owned.{IsThereFor}

module _ {W N O I S T : Type 0} (K : Known S O I N) (pipes : S) (d : Lent (Given N O I) N T) (n : ℕ) where
  pub there_open : (s : Option (SockCore AnySock W N O I)) → IsThereFor K pipes d n s → (known_after (owner_of s) (items_in (moments_of d))).open_socket ≡ true
  there_open None is = absurd is
  there_open (Some s) is = is.owned.is_open

  pub there_held : (s : Option (SockCore AnySock W N O I)) → IsThereFor K pipes d n s → (holding_of kind_told s).holds (owner_of s) ≡ true
  there_held None is = absurd is
  there_held (Some s) is = is.owned.held

  pub there_has : (s : Option (SockCore AnySock W N O I)) → IsThereFor K pipes d n s → HasWhatTheySay d.caller (moments_of d) (holding_of kind_told s)
  there_has None is = absurd is
  there_has (Some s) is = is.owned.has

  pub there_fits : (s : Option (SockCore AnySock W N O I)) → IsThereFor K pipes d n s → FitsPipes K peer_places pipes s
  there_fits None is = absurd is
  there_fits (Some s) is = is.owned.stands.fits

  -- the commands of no other object come to its mailbox
  pub there_alone : (s : Option (SockCore AnySock W N O I)) → IsThereFor K pipes d n s → (i : ℕ) → served_by d (slot_after (owner_of s) (moments_of d)).0 i ≡ true → i ≡ owner_of s
  there_alone None is = absurd is
  there_alone (Some s) is = sockets_are_alone (Given N O I) N T d s.number.0 is.order is.owned.is_open
