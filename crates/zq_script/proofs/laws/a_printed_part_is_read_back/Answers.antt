use Rattle.zq_script.proofs.PartTextLemmas.{read_back}
use Rattle.zq_script.proofs.laws.a_printed_part_is_read_back.Goals as goal

pub returns : goal.returns
returns c = read_back
