use Rattle.spec_zmtp.proofs.StreamLemmas.{one_meaning}
use Rattle.spec_zmtp.proofs.stream_laws.octets_have_one_meaning.Goals as goal

pub returns : goal.returns
returns c = one_meaning
