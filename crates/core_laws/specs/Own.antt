-- The ends on their way to an open socket may join it still behind its own calls (own choice).
use Rattle.std.specs.Prelude.{Some}
use Rattle.spec_control.specs.Names.{name_of}
use Rattle.msg_pipe.specs.Known.{Known}
use Rattle.any_sock.specs.declared.any_sock.AnySock.{AnySock}
use Rattle.desk.specs.declared.given.Given.{Given}
use Rattle.desk.specs.Coming.{BindsFit}
use Rattle.desk.specs.Desk.{slot_after}
use Rattle.sock_core.specs.declared.sock.SockCore.{SockCore}
use Rattle.sock_calls.specs.Calls.{MayJoin}
use Rattle.plain_desk.specs.Lent.{coming_to, moments_of, Lent}
use Rattle.line_socket.specs.Owned.{IsOwned}
use Rattle.core_laws.specs.Rest.{LeavesRest}

-- those that were on their way before, and any of a pair that was made since
abbrev pub OwnJoinStill : (W T : Type 0) → {P N O I : Type 0} → Known P O I N → Type 0
OwnJoinStill W T {P} {N} {O} {I} K = (old new : Lent (Given N O I) N T) (was now : SockCore AnySock W N O I) (before behind : P) → LeavesRest K now.number.0 old new before behind → IsOwned K new.caller (moments_of new) behind now →
    BindsFit K.out_name K.in_name (name_of old.items) (coming_to old (slot_after now.number.0 (moments_of old)).0) (MayJoin K before (Some was)) →
    BindsFit K.out_name K.in_name (name_of new.items) (coming_to new (slot_after now.number.0 (moments_of new)).0) (MayJoin K behind (Some now))
