use Rattle.spec_link.proofs.ExampleLemmas.{worked}
use Rattle.spec_link.proofs.laws.worked_links_run.Goals as goal

pub returns : goal.returns
returns c = worked
