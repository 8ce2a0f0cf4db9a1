use Rattle.zmtp_engine.proofs.MeetingLemmas.{meets}
use Rattle.zmtp_engine.proofs.laws.sides_that_fit_shake_hands.Goals as goal

pub returns : goal.returns
returns c = λ opts other x y d e f g h k p q. meets opts other x y d e f g h k p q
