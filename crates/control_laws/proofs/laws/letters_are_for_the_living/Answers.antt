use Rattle.control_laws.proofs.RootLemmas.{delivered_to_living}
use Rattle.control_laws.proofs.laws.letters_are_for_the_living.Goals as goal

pub returns : goal.returns
returns c start = delivered_to_living _ _
