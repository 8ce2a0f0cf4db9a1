use Rattle.spec_zmtp.proofs.GreetingLemmas.{judged-good}
use Rattle.spec_zmtp.proofs.handshake_laws.a_good_greeting_is_accepted.Goals as goal

pub returns : goal.returns
returns c = judged-good
