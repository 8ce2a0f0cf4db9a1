use Rattle.spec_link.proofs.InFlightLemmas.{all_written}
use Rattle.spec_link.proofs.laws.what_is_said_whole_is_written.Goals as goal

pub returns : goal.returns
returns c = λ opts acts d good all. all_written opts acts d all
