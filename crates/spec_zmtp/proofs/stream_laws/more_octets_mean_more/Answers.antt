use Rattle.spec_zmtp.proofs.MoreLemmas.{more_means}
use Rattle.spec_zmtp.proofs.stream_laws.more_octets_mean_more.Goals as goal

pub returns : goal.returns
returns c = λ opts octets more d e h k. more_means opts octets more d e h k
