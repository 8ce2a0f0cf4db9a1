use Rattle.spec_pattern.proofs.TopicExamples.{topics_work}
use Rattle.spec_pattern.proofs.laws.topics_are_told_and_matched.Goals as goal

pub returns : goal.returns
returns c = topics_work
