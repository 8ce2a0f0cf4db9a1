use Rattle.std.proofs.Common.{ap, not, ◌∙◌, ◌&&◌}
use Rattle.std.specs.Str.{bytes_eq}
use Rattle.spec_pattern.specs.Topics.{without_topic, is_among}
use Rattle.sub_table.specs.View.{topics_in}
use Rattle.sub_table.proofs.ViewLemmas.{remove_key-topics_in}
use Rattle.sub_table.proofs.SetLemmas.{is_among-removed}
use Rattle.sub_table.proofs.ViewLemmas.{AreInOrder-topics_in}
use Rattle.sub_table.proofs.topic_set.TopicSet.remove.Goals as goal

pub returns-clause-topics : goal.returns-clause-topics
returns-clause-topics c =
    ap topics_in c.remove.ensures.keys
    ∙ remove_key-topics_in c.args.topic.now c.self.inside.topics.keys
    ∙ ap (without_topic c.args.topic.now) c.self.view_is

pub returns-clause-members : goal.returns-clause-members
returns-clause-members c = λ t.
    is_among-removed c.args.topic.now c.self.inside.topics c.remove.new.self c.remove.ensures.updates t
    ∙ ap (λ topics. not (bytes_eq c.args.topic.now t) && is_among topics t) c.self.view_is

pub invariant_of-self : goal.invariant_of-self
invariant_of-self c = AreInOrder-topics_in c.remove.new.self.keys c.remove.ensures.ordered
