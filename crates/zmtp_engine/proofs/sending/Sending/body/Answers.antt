use Rattle.std.proofs.Common.{ℕ, List, length, ap, arith}
use Rattle.zmtp_engine.proofs.sending.Sending.body.Goals as goal

pub returns-clause-few : goal.returns-clause-few
returns-clause-few c = omega (arith, ap (λ (l : List ℕ). length l) c.as_slice.ensures, c.len-few.ensures.value, c.len-few.ensures.few)
