use Rattle.std.proofs.Common.{sym, ap, ◌∙◌, ◌∷◌}
use Rattle.sub_table.proofs.ViewLemmas.{first-topics_in}
use Rattle.sub_table.proofs.topic_set.TopicSet.first.Goals as goal

pub returns-in-Some-clause-first : goal.returns-in-Some-clause-first
returns-in-Some-clause-first c =
    let r = first-topics_in c.self.inside.topics.keys c.in-Some.topic.now c.in-Some.ensures.first in
    (r.0, sym c.self.view_is ∙ r.1 ∙ ap (λ t. t ∷ r.0) (sym c.as_slice.ensures.value))
