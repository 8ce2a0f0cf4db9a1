use Rattle.spec_pattern.proofs.NamesExample.{two_names_leave_it_open}
use Rattle.spec_pattern.proofs.patterns.two_names_leave_the_answer_open.Goals as goal

pub returns : goal.returns
returns c = two_names_leave_it_open
