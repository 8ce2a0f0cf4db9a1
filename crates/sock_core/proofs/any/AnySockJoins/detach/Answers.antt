use Rattle.sock_core.proofs.AnyLemmas.{detaches_as, without_rests}
use Rattle.sock_core.proofs.any.AnySockJoins.detach.Goals as goal

pub returns-clause-detaches : goal.returns-clause-detaches
returns-clause-detaches c = detaches_as c.args.pair c.args.place c.args.self.now c.detach.new.self c.is_told_by_its_peers.ensures c.detach.ensures

pub returns-clause-rests : goal.returns-clause-rests
returns-clause-rests c = without_rests c.args.place c.args.self.now c.detach.new.self c.detach.ensures.left_is
