use Rattle.spec_run.specs.OwnedRun.{control_at_end}
use Rattle.spec_run.proofs.JournalLemmas.{all_fates}
use Rattle.spec_run.proofs.laws.each_settled_message_has_one_fate.Goals as goal

pub returns : goal.returns
returns c start = λ script io counts run is p settled. all_fates (control_at_end io run) run is.ended p settled
