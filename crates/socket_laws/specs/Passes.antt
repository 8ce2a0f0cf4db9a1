-- What an item of an open socket does to the socket, by what its holder is told (zmq_socket(3); own choice, after libzmq's `socket_base_t`).
use Rattle.std.specs.Prelude.{◌≡◌, ◌||◌, ℕ, List, [], ◌∷◌}
use Rattle.std.specs.List.{list_any}
use Rattle.zq_base.specs.declared.kind.Kind.{Kind}
use Rattle.zq_base.specs.declared.options.Options.{Options}
use Rattle.spec_pattern.specs.Pattern.{Pattern}
use Rattle.spec_control.specs.declared.entry.Item.{Item}
use Rattle.spec_control.specs.Moments.{Moment, left_by}
use Rattle.spec_pattern.specs.Peers.{KeepsPeers}
use Rattle.desk.specs.Turns.{turned_in}
use Rattle.desk.specs.Desk.{came_with, heard_with}
use Rattle.spec_run.specs.OpenSocket.{OpenSock, attach_all, detach_all, AreAnswered, sock_after, PassesItems, new_open}
use Rattle.sock_core.specs.Has.{is_stop}
use Rattle.sock_core.specs.Way.{outs_of}
use Rattle.socket_laws.specs.Open.{ends_at, moment_at, left_before, ComesTo}
use Rattle.socket_laws.specs.Peers.{HasItsPeers}

-- the socket behind an item is what its holder is told: stopped where it hears of a Stop, with the ends that join attached and those that go out of use detached, and each end where it is
pub record IsPassed {N S : Type 0} (m : Moment N S) (s : OpenSock) : Type 0 where
  pub stopped : (sock_after m s).stopped ≡ (s.stopped || list_any is_stop (heard_with m.item m.found (left_by m)))
  pub pattern : (sock_after m s).pattern ≡ detach_all (outs_of (turned_in m.found (left_by m))) (attach_all (came_with m.item) s.pattern)
  pub ends : (sock_after m s).ends ≡ ends_at s.object (left_by m)
  pub peers : HasItsPeers (sock_after m s)
  pub passes : AreAnswered (came_with m.item) s.pattern → PassesItems (m ∷ []) s (sock_after m s)

-- so it is of a socket with its ends where its caller's moments left them, of which each peer is in use
abbrev pub ItemsPass : (N S : Type 0) → Type 0
ItemsPass N S = (io : ℕ) (before : List (Item N S)) (item : Item N S) (o : ℕ) → ComesTo io before item o →
    (s : OpenSock) → s.object ≡ o → s.ends ≡ ends_at o (left_before io before item o) → HasItsPeers s → IsPassed (moment_at io before item) s

-- a socket has none but such peers at its making, and in its calls
pub record SocketsHaveTheirPeers (N S : Type 0) : Type 0 where
  pub made : (m : Moment N S) (object : ℕ) (kind : Kind) (options : Options) → HasItsPeers (new_open m object kind options)
  pub calls : (s : OpenSock) (p : Pattern) → KeepsPeers s.pattern p → HasItsPeers s → HasItsPeers (record s { pattern = p })
