use Rattle.spec_link.proofs.TopicExampleLemmas.{worked, unsaid}
use Rattle.spec_link.proofs.laws.worked_topics_are_said.Goals as goal

pub returns-clause-worked : goal.returns-clause-worked
returns-clause-worked c = worked

pub returns-clause-unsaid : goal.returns-clause-unsaid
returns-clause-unsaid c = unsaid
