use Rattle.socket_laws.proofs.UnsettledLemmas as lemmas
use Rattle.socket_laws.proofs.past.pipes_are_settled.Goals as goal

pub returns : goal.returns
returns g c = lemmas.pipes_are_settled _ _ c.settled_ends_are_gone.ensures c.commands_come_once.ensures
