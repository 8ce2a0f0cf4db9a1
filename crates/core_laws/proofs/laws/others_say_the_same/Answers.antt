use Rattle.core_laws.proofs.SilentLemmas.{others_say_the_same}
use Rattle.core_laws.proofs.laws.others_say_the_same.Goals as goal

pub returns : goal.returns
returns g c = others_say_the_same _ _ _
