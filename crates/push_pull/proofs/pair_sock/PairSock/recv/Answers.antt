use Rattle.std.proofs.Common.{◌∙◌}
use Rattle.push_pull.proofs.OnePeerLemmas.{one_order}
use Rattle.push_pull.proofs.pair_sock.PairSock.recv.Goals as goal

pub returns-clause-peer : goal.returns-clause-peer
returns-clause-peer g c = one_order c.self.inside.turns c.receive_by_turn.new.turns c.self.invariant c.receive_by_turn.ensures.places ∙ c.self.view_is
