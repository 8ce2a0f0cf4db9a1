use Rattle.zq_base.proofs.NumberLemmas.{number_in-decimal}
use Rattle.zq_base.proofs.laws.a_number_is_its_decimal.Goals as goal

pub returns : goal.returns
returns c = number_in-decimal
