use Rattle.std.proofs.Common.{ap, subst, ◌∙◌, ◌||◌, true}
use Rattle.std.specs.BTreeSet.{UpdatesBy}
use Rattle.std.specs.Cmp.Lexicographic.{slice_cmp}
use Rattle.std.specs.Ordering.{nat_cmp}
use Rattle.std.specs.Str.{bytes_eq}
use Rattle.spec_pattern.specs.Topics.{with_topic, is_among}
use Rattle.sub_table.specs.View.{topics_in}
use Rattle.sub_table.proofs.ViewLemmas.{insert_key-topics_in, key_cmp}
use Rattle.sub_table.proofs.SetLemmas.{is_among-added}
use Rattle.sub_table.proofs.ViewLemmas.{AreInOrder-topics_in}
use Rattle.sub_table.proofs.topic_set.TopicSet.add.Goals as goal

pub returns-clause-ok : goal.returns-clause-ok
returns-clause-ok c =
    ap topics_in c.in_ok-insert.ensures.keys
    ∙ insert_key-topics_in c.in_ok-topic.topic c.self.inside.topics.keys
    ∙ ap (λ t. with_topic t (topics_in c.self.inside.topics.keys)) c.in_ok-topic.ensures.items
    ∙ ap (with_topic c.args.topic.now) c.self.view_is

pub returns-clause-members : goal.returns-clause-members
returns-clause-members c = λ t.
    is_among-added c.args.topic.now c.self.inside.topics c.insert.new.self
    (subst (λ key. UpdatesBy key_cmp (λ k. slice_cmp nat_cmp key k.items) c.self.inside.topics c.insert.new.self true) c.in_ok-topic.ensures.items c.in_ok-insert.ensures.updates) t
    ∙ ap (λ topics. bytes_eq c.args.topic.now t || is_among topics t) c.self.view_is

pub invariant_of-self-2 : goal.invariant_of-self-2
invariant_of-self-2 c = AreInOrder-topics_in c.insert.new.self.keys c.in_ok-insert.ensures.ordered
