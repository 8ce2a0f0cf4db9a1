use Rattle.spec_pattern.proofs.WholeLemmas.{stay_whole}
use Rattle.spec_pattern.proofs.patterns.a_socket_stays_whole.Goals as goal

pub returns : goal.returns
returns c = stay_whole
