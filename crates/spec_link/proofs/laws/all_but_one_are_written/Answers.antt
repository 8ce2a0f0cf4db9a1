use Rattle.spec_link.proofs.OneByOneLemmas.{all_but_one}
use Rattle.spec_link.proofs.laws.all_but_one_are_written.Goals as goal

pub returns : goal.returns
returns c = all_but_one
