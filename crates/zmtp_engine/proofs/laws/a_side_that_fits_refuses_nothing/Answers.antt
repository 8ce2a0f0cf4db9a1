use Rattle.zmtp_engine.proofs.CrossingLemmas.{none_refused}
use Rattle.zmtp_engine.proofs.laws.a_side_that_fits_refuses_nothing.Goals as goal

pub returns : goal.returns
returns c = λ p x d front other e f is known cut all fit decodes r refuses. none_refused p x d front other e f is known cut all fit decodes r refuses
