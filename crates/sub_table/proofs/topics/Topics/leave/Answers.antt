use Rattle.std.proofs.Common.{◌∙◌}
use Rattle.sub_table.proofs.GoneLemmas.{without_peer-only}
use Rattle.sub_table.proofs.topics.Topics.leave.Goals as goal

pub topics-preserved : goal.topics-preserved
topics-preserved c = without_peer-only c.args.peer c.topics.self c.next_gone.new.self c.in-Some.ensures.only ∙ c.topics.invariant
