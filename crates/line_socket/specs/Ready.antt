-- A lent socket that is ready for a call of the control plane (own choice).
use Rattle.std.specs.Prelude.{◌≤◌, List, Option, Some, None, length}
use Rattle.spec_control.specs.Control.{ends_of}
use Rattle.spec_control.specs.Moments.{Moment, left_after}
use Rattle.any_sock.specs.declared.any_sock.AnySock.{AnySock}
use Rattle.any_sock.specs.Told.{IsToldByPeers}
use Rattle.sock_core.specs.declared.sock.SockCore.{SockCore}
use Rattle.line_socket.specs.View.{pattern_told, open_view}
use Rattle.line_socket.specs.Standing.{IsWhole}
use Rattle.socket_laws.specs.Bounds.{drawn_of}
use Rattle.socket_laws.specs.Peers.{HasItsPeers}
use Rattle.plain_desk.specs.Lent.{moments_of}
use Rattle.line_socket.specs.Owned.{LentParts}

-- what the kind of a socket is over its ends is told by the ends of its peers
abbrev pub AreTold : {W N O I : Type 0} → Option (SockCore AnySock W N O I) → Type 0
AreTold None = Unit {0}
AreTold (Some s) = IsToldByPeers s.kind

module _ {W N O I T : Type 0} where
  -- each peer of a socket is one of its ends that is in use, and it drew no more names than it has ends
  pub record HasPeers (moments : List (Moment N T)) (s : SockCore AnySock W N O I) : Type 0 where
    pub peers : HasItsPeers (open_view 0 (Some s))
    pub drawn : drawn_of (pattern_told s) ≤ length (ends_of s.number.0 (left_after s.number.0 moments))

  -- the same of a socket that is there
  abbrev pub HavePeers : List (Moment N T) → Option (SockCore AnySock W N O I) → Type 0
  HavePeers moments None = ⊥
  HavePeers moments (Some s) = HasPeers moments s

  -- want of memory has left nothing of it to do, and its peers are its ends
  pub record IsReady {S : Type 0} (l : LentParts W N O I S T) : Type 0 where
    pub whole : IsWhole l.socket
    pub peers : HavePeers (moments_of l.desk) l.socket
