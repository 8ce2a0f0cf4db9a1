use Rattle.spec_control.proofs.OwnLemmas.{own_items_are_whole}
use Rattle.spec_control.proofs.held.own_items_are_whole.Goals as goal

pub returns : goal.returns
returns c start = own_items_are_whole _ _
