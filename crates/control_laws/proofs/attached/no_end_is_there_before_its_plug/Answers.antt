use Rattle.control_laws.proofs.UnpluggedLemmas.{no_end_is_there_before_its_plug}
use Rattle.control_laws.proofs.attached.no_end_is_there_before_its_plug.Goals as goal

pub returns : goal.returns
returns c start = no_end_is_there_before_its_plug _ _
