use Rattle.zmtp_engine.proofs.Calls.{some_meaning_now}
use Rattle.zmtp_engine.proofs.laws.what_is_taken_up_has_a_meaning.Goals as goal

pub returns : goal.returns
returns c = λ p x f now. some_meaning_now p x f now
