use Rattle.std.proofs.Common.{ap, ◌∙◌, ◌++◌, ◌∷◌, [], ◌||◌, map}
use Rattle.std.specs.Map.Iter.{deref}
use Rattle.std.specs.Str.{bytes_eq}
use Rattle.spec_pattern.specs.Topics.{is_among}
use Rattle.sub_table.specs.View.{topics_in}
use Rattle.sub_table.proofs.CountLemmas.{is_among-one_more, topics_in-push}
use Rattle.sub_table.proofs.topic_set.TopicSet.add_all.Goals as goal

pub topics-preserved : goal.topics-preserved
topics-preserved c = λ t.
    is_among-one_more c.in-Some.topic.now.items c.args.self.now c.topics.self c.add.new.self (topics_in (map deref c.topics.yielded)) (topics_in (map deref (c.topics.yielded ++ c.in-Some.topic ∷ []))) t
    (c.in_ok-add.ensures.members t ∙ ap (λ topic. bytes_eq topic t || is_among c.topics.self t) c.as_slice.ensures.value)
    (c.topics.invariant t) (topics_in-push c.topics.yielded c.in-Some.topic)
