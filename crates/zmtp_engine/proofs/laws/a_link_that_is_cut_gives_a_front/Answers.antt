use Rattle.zmtp_engine.proofs.CrossingLemmas.{crosses}
use Rattle.zmtp_engine.proofs.laws.a_link_that_is_cut_gives_a_front.Goals as goal

pub returns : goal.returns
returns c = λ p x front other e f cut all is. crosses p x front other e f cut all is
