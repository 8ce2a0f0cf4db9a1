use Rattle.std.proofs.Common.{ap, ◌∙◌, nat_eq}
use Rattle.spec_pattern.specs.Topics.{others_have}
use Rattle.sub_table.proofs.TieLemmas.{others-held}
use Rattle.sub_table.proofs.topics.Topics.others_have.Goals as goal

pub returns : goal.returns
returns c =
    c.has_other.ensures
    ∙ others-held c.self.inside.peers.entries c.self.inside.holders c.args.peer c.args.topic.now c.self.invariant
    ∙ ap (λ subs. others_have nat_eq subs c.args.peer c.args.topic.now) c.self.view_is
