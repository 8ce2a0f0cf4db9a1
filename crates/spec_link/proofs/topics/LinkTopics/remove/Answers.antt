use Rattle.std.proofs.Common.{List, ap, sym, subst, ◌∙◌}
use Rattle.std.specs.Prelude.{option_map}
use Rattle.spec_pattern.specs.Topics.{Topic, without_topic}
use Rattle.sub_table.specs.View.{topics_in}
use Rattle.sub_table.proofs.ViewLemmas.{remove_key-topics_in}
use Rattle.spec_link.specs.Topics.{Topics, AreShort}
use Rattle.spec_link.proofs.ShortLemmas.{topics_with, short_without}
use Rattle.spec_link.proofs.topics.LinkTopics.remove.Goals as goal

pub invariant_of-self : goal.invariant_of-self
invariant_of-self c =
    subst AreShort (sym (ap topics_in c.remove.ensures.keys ∙ remove_key-topics_in c.args.topic.now c.self.inside.topics.keys))
    (short_without c.args.topic.now (topics_in c.self.inside.topics.keys) c.self.invariant)

pub returns : goal.returns
returns c =
    ap (λ (l : List Topic). topics_with (option_map (λ q. q.items) c.self.inside.again) l) (ap topics_in c.remove.ensures.keys ∙ remove_key-topics_in c.args.topic.now c.self.inside.topics.keys)
    ∙ ap (λ (v : Topics). record v { taken = without_topic c.args.topic.now v.taken }) c.self.view_is
