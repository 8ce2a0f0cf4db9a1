-- What a link and a host over TCP are seen as: how often each refused (own choice).
use Rattle.std.specs.Prelude.{ℕ}

-- how often a link failed, wasn't ready, and had ended
pub record LinkCounts : Type 0 where
  pub faults : ℕ
  pub stalls : ℕ
  pub ends : ℕ

-- how often a host failed and wasn't ready
pub record HostCounts : Type 0 where
  pub faults : ℕ
  pub stalls : ℕ
