use Rattle.sock_core.proofs.AnyLemmas.{undoes_as, without_rests}
use Rattle.sock_core.proofs.any.AnySockJoins.take_back.Goals as goal

pub returns-clause-undoes : goal.returns-clause-undoes
returns-clause-undoes c before came = undoes_as c.args.place before c.args.self.now c.take_back.new.self c.take_back.ensures came

pub returns-clause-rests : goal.returns-clause-rests
returns-clause-rests c = without_rests c.args.place c.args.self.now c.take_back.new.self c.take_back.ensures.left_is
