use Rattle.spec_link.proofs.TopicLemmas.{topics_first}
use Rattle.spec_link.proofs.laws.topics_come_first.Goals as goal

pub returns : goal.returns
returns c = topics_first
