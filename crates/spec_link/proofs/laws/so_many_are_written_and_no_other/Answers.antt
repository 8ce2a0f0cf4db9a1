use Rattle.spec_link.proofs.InFlightLemmas.{counts_are_one}
use Rattle.spec_link.proofs.laws.so_many_are_written_and_no_other.Goals as goal

pub returns : goal.returns
returns c = counts_are_one
