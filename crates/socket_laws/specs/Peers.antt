-- The ends of an open socket that are peers of its kind: none that is out of use (zmq_socket(3); own choice).
use Rattle.std.specs.Prelude.{◌≡◌, ℕ, true, false, List, All}
use Rattle.std.specs.List.{list_any}
use Rattle.zq_base.specs.declared.ids.EndId.{EndId}
use Rattle.zq_base.specs.declared.attached.Attached.{Attached}
use Rattle.spec_pattern.specs.PipeStep.{same_pipe}
use Rattle.spec_pattern.specs.Pattern.{Pattern, attach_as, detach}
use Rattle.spec_control.specs.Control.{is_end}
use Rattle.spec_pattern.specs.Peers.{kept_ends, listed_peers, KeepsPeers}
use Rattle.control_laws.specs.AttachedOnce.{AreOnce}
use Rattle.spec_run.specs.OpenSocket.{OpenSock, had_out}

-- an end is none of those that a socket keeps
abbrev pub IsNoPeer : EndId → Pattern → Type 0
IsNoPeer e p = All (λ x. same_pipe e x ≡ false) (kept_ends p)

-- what comes and goes leaves an end that is no peer so, and one that goes is none; no listed peer stands twice
pub record PeersComeAndGo : Type 0 where
  -- of an end that is no peer nothing is left to take away
  pub none : (e : EndId) (p : Pattern) → IsNoPeer e p → detach e p ≡ p
  pub comes : (e x : EndId) (answer : Attached) (identity : List ℕ) (p : Pattern) → same_pipe e x ≡ false → IsNoPeer e p → IsNoPeer e (attach_as answer x identity p)
  pub goes : (e x : EndId) (p : Pattern) → AreOnce (listed_peers p) → IsNoPeer e p → IsNoPeer e (detach x p)
  pub gone : (e : EndId) (p : Pattern) → AreOnce (listed_peers p) → IsNoPeer e (detach e p)
  pub calls : (e : EndId) (old new : Pattern) → KeepsPeers old new → IsNoPeer e old → IsNoPeer e new

-- an end is one of a socket's, and in use or not attached yet
pub record IsIn (s : OpenSock) (e : EndId) : Type 0 where
  pub here : list_any (λ x. is_end e x.end) s.ends ≡ true
  pub in_use : had_out s e ≡ false

-- each peer of a socket's kind is such an end, and no listed one stands twice
pub record HasItsPeers (s : OpenSock) : Type 0 where
  pub once : AreOnce (listed_peers s.pattern)
  pub peers : All (IsIn s) (kept_ends s.pattern)
