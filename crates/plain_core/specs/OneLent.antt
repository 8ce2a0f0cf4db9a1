-- A socket that is lent to a caller of a context on one thread (own choice).
use Rattle.std.specs.Prelude.{ℕ, [], Option}
use Rattle.desk.specs.declared.given.Given.{Given}
use Rattle.any_sock.specs.declared.any_sock.AnySock.{AnySock}
use Rattle.sock_core.specs.declared.sock.SockCore.{SockCore}
use Rattle.plain_desk.specs.Lent.{Lent}
use Rattle.line_socket.specs.declared.sock.LentSock.{LentSock}
use Rattle.line_socket.specs.Owned.{LentParts, parts, parts_of}
use Rattle.core_laws.specs.Calls.{for_caller}
use Rattle.plain_core.specs.declared.telling.Was.{Was}

module _ {S O I W N T : Type 0} where
  -- as it is
  abbrev pub lent_now : LentSock S (Lent (Given N O I) N T) O I W N T → LentParts W N O I S T
  lent_now l = parts_of (λ d. d) l

  -- as it is lent with this socket in its place
  abbrev pub lent_for : (caller : ℕ) → LentSock S (Lent (Given N O I) N T) O I W N T → Option (SockCore AnySock W N O I) → LentParts W N O I S T
  lent_for caller l socket = parts l.pipes (for_caller caller l.desk) socket []

  -- as it came back with this socket taken out
  abbrev pub lent_back : LentSock S (Lent (Given N O I) N T) O I W N T → Option (SockCore AnySock W N O I) → LentParts W N O I S T
  lent_back l socket = parts l.pipes l.desk socket l.since.items

  -- as it was noted
  abbrev pub lent_was : Was S O I W N T → LentParts W N O I S T
  lent_was x = parts x.pipes.value x.desk.value x.socket.value x.since.value.items
