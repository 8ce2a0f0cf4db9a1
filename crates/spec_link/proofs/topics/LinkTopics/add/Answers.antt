use Rattle.std.proofs.Common.{List, ap, sym, subst, ◌∙◌}
use Rattle.std.specs.Prelude.{option_map}
use Rattle.spec_pattern.specs.Topics.{Topic, with_topic}
use Rattle.sub_table.specs.View.{topics_in}
use Rattle.sub_table.proofs.ViewLemmas.{insert_key-topics_in}
use Rattle.spec_link.specs.Topics.{Topics, AreShort}
use Rattle.spec_link.proofs.ShortLemmas.{topics_with, short_with}
use Rattle.spec_link.proofs.topics.LinkTopics.add.Goals as goal

pub invariant_of-self-2 : goal.invariant_of-self-2
invariant_of-self-2 c =
    subst AreShort (sym (ap topics_in c.in_ok-insert.ensures.keys ∙ insert_key-topics_in c.in_ok-octets.octets c.self.inside.topics.keys
    ∙ ap (λ (t : Topic). with_topic t (topics_in c.self.inside.topics.keys)) c.in_ok-octets.ensures.items))
    (short_with c.args.topic.now (topics_in c.self.inside.topics.keys) c.requires.short c.self.invariant)

pub returns-clause-ok : goal.returns-clause-ok
returns-clause-ok c =
    ap (λ (l : List Topic). topics_with (option_map (λ q. q.items) c.self.inside.again) l) (ap topics_in c.in_ok-insert.ensures.keys ∙ insert_key-topics_in c.in_ok-octets.octets c.self.inside.topics.keys
    ∙ ap (λ (t : Topic). with_topic t (topics_in c.self.inside.topics.keys)) c.in_ok-octets.ensures.items)
    ∙ ap (λ (v : Topics). record v { taken = with_topic c.args.topic.now v.taken }) c.self.view_is
