use Rattle.sock_core.proofs.NoneLemmas.{knows_peers, names_where}
use Rattle.sock_core.proofs.any.AnySockJoins.is_sound.Goals as goal

pub returns-clause-peers : goal.returns-clause-peers
returns-clause-peers c = knows_peers c.args.self.now c.is_told_by_its_peers.ensures

pub returns-clause-names : goal.returns-clause-names
returns-clause-names c = names_where c.args.self.now
