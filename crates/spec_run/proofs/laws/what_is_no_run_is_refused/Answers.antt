use Rattle.spec_run.proofs.RefusedFacts.{refused}
use Rattle.spec_run.proofs.laws.what_is_no_run_is_refused.Goals as goal

pub returns : goal.returns
returns c = refused
