-- A call takes no peer and lets none go (RFCs 28 to 31): peers come and go by connections alone.
use Rattle.std.specs.Prelude.{◌≢◌, ℕ, Bool, List, All, Contains, map}
use Rattle.zq_base.specs.Message.{Frames}
use Rattle.spec_pattern.specs.TurnList.{End}
use Rattle.spec_pattern.specs.Topics.{Topic}
use Rattle.spec_pattern.specs.Pattern.{Pattern, attach, detach}
use Rattle.spec_pattern.specs.PatternCalls.{Change}
use Rattle.spec_pattern.specs.Peers.{peer_names, named_peer, kept_ends, written_ends, HaveOneName, KeepsPeers}
use Rattle.spec_pattern.specs.Outcomes.{SendOutcome, RecvOutcome, ChangeOutcome, PumpOutcome, SendsSo, ReceivesSo, ChangesSo, PumpsSo}

-- each call keeps the socket's peers
pub record CallsKeepPeers : Type 0 where
  pub sends : (can_write : End → Bool) (m : Frames) (old : Pattern) (x : SendOutcome)
      → SendsSo can_write m old x → KeepsPeers old x.new
  pub receives : (old : Pattern) (x : RecvOutcome) → ReceivesSo old x → KeepsPeers old x.new
  pub changes : (change : Change) (can_write : End → Bool) (topic : Topic) (old : Pattern)
      (x : ChangeOutcome) → ChangesSo change can_write topic old x → KeepsPeers old x.new
  pub pumps : (can_write : End → Bool) (old : Pattern) (x : PumpOutcome)
      → PumpsSo can_write old x → KeepsPeers old x.new

-- the ends that a socket may write are among those that it keeps, and it keeps no further one after a call
pub record EndsStay : Type 0 where
  pub written : (old : Pattern) → All (Contains (kept_ends old)) (written_ends old)
  pub stays : (old new : Pattern) → KeepsPeers old new
      → All (Contains (kept_ends old)) (kept_ends new)

-- no peer gets a second name: not by a call, not where another peer comes, and not where one goes
pub record NamesStayOne : Type 0 where
  pub calls : (old new : Pattern) → KeepsPeers old new → HaveOneName (peer_names old)
      → HaveOneName (peer_names new)
  pub comes : (e : End) (identity : List ℕ) (old : Pattern)
      → All (λ p. p ≢ e) (map named_peer (peer_names old)) → HaveOneName (peer_names old)
      → HaveOneName (peer_names (attach e identity old))
  pub goes : (e : End) (old : Pattern) → HaveOneName (peer_names old)
      → HaveOneName (peer_names (detach e old))
