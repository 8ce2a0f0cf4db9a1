use Rattle.std.proofs.Common.{ap, subst, ◌∙◌}
use Rattle.spec_pattern.specs.Topics.{AreInOrder, is_among}
use Rattle.sub_table.proofs.ViewLemmas.{any-topics_in}
use Rattle.sub_table.proofs.topic_set.TopicSet.has.Goals as goal

pub returns-clause-value : goal.returns-clause-value
returns-clause-value c =
    c.contains.ensures ∙ any-topics_in c.args.topic.now c.self.inside.topics.keys
    ∙ ap (λ topics. is_among topics c.args.topic.now) c.self.view_is

pub returns-clause-order : goal.returns-clause-order
returns-clause-order c = subst AreInOrder c.self.view_is c.self.invariant
