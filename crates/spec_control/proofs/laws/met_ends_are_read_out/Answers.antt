use Rattle.spec_control.proofs.ReadOutLemmas.{met_ends_are_read_out}
use Rattle.spec_control.proofs.laws.met_ends_are_read_out.Goals as goal

pub returns : goal.returns
returns c = met_ends_are_read_out
