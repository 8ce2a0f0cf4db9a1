-- A tale owns nothing, so it may go to another thread.
use denote.RattleType.{RattleType}
use denote.Param.Send.{IsSend, owning_send, sendable}
use Rattle.zq_base.specs.contracts.tale.Tale.{the_row, the_type}

pub send : (X : RattleType) → IsSend X → IsSend (the_row X)
send X x₀ = owning_send (the_type X) (search sendable, tt) (λ d. tt) (λ k x w. tt)
