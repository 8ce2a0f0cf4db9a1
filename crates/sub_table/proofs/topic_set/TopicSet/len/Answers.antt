use Rattle.std.proofs.Common.{subst}
use Rattle.spec_pattern.specs.Topics.{AreInOrder}
use Rattle.sub_table.proofs.topic_set.TopicSet.len.Goals as goal

pub returns-clause-order : goal.returns-clause-order
returns-clause-order c = subst AreInOrder c.self.view_is c.self.invariant
