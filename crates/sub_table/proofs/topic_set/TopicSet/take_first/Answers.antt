use Rattle.std.proofs.Common.{ap, not, ◌∙◌, ◌&&◌}
use Rattle.std.specs.Str.{bytes_eq}
use Rattle.spec_pattern.specs.Topics.{is_among}
use Rattle.sub_table.proofs.SetLemmas.{is_among-removed}
use Rattle.sub_table.proofs.ViewLemmas.{AreInOrder-topics_in}
use Rattle.sub_table.proofs.topic_set.TopicSet.take_first.Goals as goal

pub returns-in-Some-clause-members : goal.returns-in-Some-clause-members
returns-in-Some-clause-members c = λ t.
    is_among-removed c.in-Some.topic.items c.self.inside.topics c.pop_first.new.self c.in-Some.ensures.updates t
    ∙ ap (λ topics. not (bytes_eq c.in-Some.topic.items t) && is_among topics t) c.self.view_is

pub invariant_of-self : goal.invariant_of-self
invariant_of-self c = AreInOrder-topics_in c.pop_first.new.self.keys c.in-Some.ensures.ordered
