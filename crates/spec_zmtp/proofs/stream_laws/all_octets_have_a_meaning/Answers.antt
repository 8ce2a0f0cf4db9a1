use Rattle.spec_zmtp.proofs.TotalLemmas.{some_meaning}
use Rattle.spec_zmtp.proofs.stream_laws.all_octets_have_a_meaning.Goals as goal

pub returns : goal.returns
returns c = some_meaning
