use Rattle.spec_zmtp.proofs.GreetingLemmas.{judged-append}
use Rattle.spec_zmtp.proofs.handshake_laws.more_octets_change_no_judgement.Goals as goal

pub returns : goal.returns
returns c = judged-append
