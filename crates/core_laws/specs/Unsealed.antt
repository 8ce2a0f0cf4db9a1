-- What is on its way stays unsealed over the calls of a core (own choice, after libzmq's `pipe_t`).
use Rattle.std.specs.Prelude.{◌≡◌, ℕ, []}
use Rattle.spec_control.specs.declared.entry.Item.{Item}
use Rattle.msg_pipe.specs.Known.{Known}
use Rattle.desk.specs.declared.given.Given.{Given}
use Rattle.plain_desk.specs.Lent.{Lent}
use Rattle.core_laws.specs.Rest.{LeavesRest}
use Rattle.core_laws.specs.ReapedComing.{AwayUnsealed}
use Rattle.core_laws.specs.Asides.{IsOneAside}

pub record KeepsUnsealed {S O I N : Type 0} (K : Known S O I N) (T : Type 0) : Type 0 where
  -- before the first item nothing is on its way
  pub first : (d : Lent (Given N O I) N T) (pipes : S) → d.items ≡ [] → AwayUnsealed K d pipes
  -- over an item aside
  pub aside : (old new : Lent (Given N O I) N T) (item : Item N T) → IsOneAside old new item → (pipes : S) → AwayUnsealed K old pipes → AwayUnsealed K new pipes
  -- over calls of an open socket, its close among them
  pub calls : (o : ℕ) (old new : Lent (Given N O I) N T) (before behind : S) → LeavesRest K o old new before behind → AwayUnsealed K old before → AwayUnsealed K new behind
