use Rattle.control_laws.proofs.SayLemmas.{holders_have_what_is_said}
use Rattle.control_laws.proofs.held.holders_have_what_is_said.Goals as goal

pub returns : goal.returns
returns c start = holders_have_what_is_said _ _
