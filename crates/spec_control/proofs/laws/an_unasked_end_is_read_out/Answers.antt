use Rattle.spec_control.proofs.ReadOutLemmas.{unasked_ends_are_read_out}
use Rattle.spec_control.proofs.laws.an_unasked_end_is_read_out.Goals as goal

pub returns : goal.returns
returns c = unasked_ends_are_read_out
