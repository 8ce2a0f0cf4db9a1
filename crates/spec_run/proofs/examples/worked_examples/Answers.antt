use Rattle.spec_run.proofs.ExampleFacts.{examples}
use Rattle.spec_run.proofs.examples.worked_examples.Goals as goal

pub returns : goal.returns
returns c = examples
