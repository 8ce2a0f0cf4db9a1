use Rattle.spec_control.proofs.TrialLemmas.{delimiter_is_told}
use Rattle.spec_control.proofs.held.a_delimiter_is_told.Goals as goal

pub returns : goal.returns
returns c = delimiter_is_told
