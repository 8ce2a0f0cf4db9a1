use Rattle.end_table.proofs.ThreadLemmas.{in_order, full_look}
use Rattle.end_table.proofs.laws.two_workers_keep_the_order.Goals as goal

pub returns : goal.returns
returns c = record { order = in_order; full = full_look }
