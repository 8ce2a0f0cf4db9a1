use Rattle.zq_script.proofs.GroupLemmas.{groups_none}
use Rattle.zq_script.proofs.group.Group.new.Goals as goal

pub returns : goal.returns
returns c = groups_none _ c.new.ensures.items c.new-2.ensures.items
