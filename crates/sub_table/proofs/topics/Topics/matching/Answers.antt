use Rattle.std.proofs.Common.{◌∙◌}
use Rattle.sub_table.proofs.MatchLemmas.{matching-found}
use Rattle.sub_table.proofs.topics.Topics.matching.Goals as goal

pub returns : goal.returns
returns c =
    c.in_ok-peers.ensures.ok
    ∙ matching-found c.args.self.now c.args.octets.now c.in_ok-found.found c.into_vec.ensures.order c.in_ok-found.ensures.order c.in_ok-found.ensures.found
