-- Calls of a socket that make no pipe.
use Rattle.std.specs.Prelude.{◌≡◌, Some, None}
use Rattle.std.proofs.Common.{arith, sym, ◌∙◌}
use Rattle.msg_pipe.specs.Known.{Known}
use Rattle.socket_laws.specs.Quiet.{QuietCallsGoOn}

none_some : {X : Type 0} {x : X} → None ≡ Some x → ⊥
none_some e = Prim.grind arith

pub quiet_calls_go_on : {S O I N : Type 0} (K : Known S O I N) → QuietCallsGoOn K
quiet_calls_go_on K c now names said same changes = record { kept = λ p n h. same p ∙ h; more = λ p n none says. absurd (none_some (sym none ∙ sym (same p) ∙ says)) }
