use Rattle.control_laws.proofs.StepsLemmas.{events_are_steps}
use Rattle.control_laws.proofs.moves.each_event_is_made_of_steps.Goals as goal

pub returns : goal.returns
returns c start = events_are_steps _ _
