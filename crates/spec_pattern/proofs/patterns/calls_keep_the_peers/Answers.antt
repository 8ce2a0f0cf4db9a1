use Rattle.spec_pattern.proofs.KeepCallLemmas.{calls_keep_peers}
use Rattle.spec_pattern.proofs.patterns.calls_keep_the_peers.Goals as goal

pub returns : goal.returns
returns c = calls_keep_peers
