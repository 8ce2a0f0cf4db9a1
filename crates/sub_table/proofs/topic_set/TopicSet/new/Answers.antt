use Rattle.std.proofs.Common.{sym, ap, subst}
use Rattle.spec_pattern.specs.Topics.{AreInOrder}
use Rattle.sub_table.specs.View.{topics_in}
use Rattle.sub_table.proofs.ViewLemmas.{none_in_order}
use Rattle.sub_table.proofs.topic_set.TopicSet.new.Goals as goal

pub invariant_of-result : goal.invariant_of-result
invariant_of-result c = subst AreInOrder (sym (ap topics_in c.new.ensures.empty)) none_in_order
