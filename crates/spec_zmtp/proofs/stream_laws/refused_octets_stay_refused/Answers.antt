use Rattle.spec_zmtp.proofs.StreamLemmas.{refused_stays}
use Rattle.spec_zmtp.proofs.stream_laws.refused_octets_stay_refused.Goals as goal

pub returns : goal.returns
returns c = refused_stays
