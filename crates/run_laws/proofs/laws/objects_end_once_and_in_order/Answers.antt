use Rattle.run_laws.proofs.OrderLemmas.{runs_end_in_order}
use Rattle.run_laws.proofs.laws.objects_end_once_and_in_order.Goals as goal

pub returns : goal.returns
returns c start = λ script io counts run is. runs_end_in_order io run.order is.control
