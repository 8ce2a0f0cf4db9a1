-- An open socket of a core that agrees can be lent.
use Rattle.std.specs.Prelude.{◌-◌, ◌<◌, ℕ, List, Some, length}
use Rattle.std.proofs.Common.{arith, ap, length-drop}
use Rattle.msg_pipe.specs.Known.{Known}
use Rattle.line_socket.specs.View.{open_view}
use Rattle.plain_desk.specs.Lent.{moments_of}
use Rattle.line_socket.specs.Owned.{newest}
use Rattle.core_laws.specs.Calls.{for_caller}
use Rattle.core_laws.proofs.SilentLemmas.{one_order_of}
use Rattle.plain_core.specs.Lending.{SocketsCanBeLent}

-- the newest none are none
none_newest : {X : Type 0} (xs : List X) → 0 < length (newest 0 xs) → ⊥
none_newest xs some = let all = length-drop (length xs - 0) xs in omega (arith, some, all)

pub sockets_can_be_lent : (W T : Type 0) {S N O I : Type 0} (K : Known S O I N) → SocketsCanBeLent W T K
sockets_can_be_lent W T K w is order k s agrees = record {
  lent = record {
    owned = agrees.agrees.owned;
    order = one_order_of k w.desk order;
    told = is.identities;
    were_asked = agrees.agrees.asked;
    asked = λ some. absurd (none_newest (moments_of (for_caller k w.desk)) some);
  };
  takes = record { distinct = is.distinct; binds = agrees.agrees.binds };
  ready = agrees.ready;
  view = ap (λ (n : ℕ). open_view n (Some s)) agrees.box;
}
