use Rattle.std.proofs.Common.{arith, sym, ◌∙◌}
use Rattle.ctl_plane.specs.Past.{control_of}
use Rattle.plain_core.proofs.TableLemmas.{table_told}
use Rattle.plain_core.proofs.ToldLemmas.{counts_are_told, pairs_are_few}
use Rattle.plain_core.proofs.pipes.pipes_shown.Goals as goal

pub overflow_mul-pairs : goal.overflow_mul-pairs
overflow_mul-pairs g c =
    let d = c.args.desk.now in
    let few = pairs_are_few c.ends_are_few.ensures d.past.workers d.items (control_of d.past) c.is_of_one_order.ensures.order.run c.is_of_one_order.ensures.control in
    let many = c.pairs.ensures in omega (arith, few, many)

pub all_rows-requires-clause-table : goal.all_rows-requires-clause-table
all_rows-requires-clause-table g c =
    let p = c.args.desk.now.past in
    table_told (control_of p) c.pairs.result _ _ (counts_are_told p.workers p.events ∙ sym (c.as_slice.ensures ∙ c.in_ok-notes.ensures)) c.pairs.ensures (c.deref.ensures.value ∙ c.in_ok-table.ensures)

pub all_rows-requires-clause-few : goal.all_rows-requires-clause-few
all_rows-requires-clause-few g c =
    let d = c.args.desk.now in
    let few = pairs_are_few c.ends_are_few.ensures d.past.workers d.items (control_of d.past) c.is_of_one_order.ensures.order.run c.is_of_one_order.ensures.control in omega (arith, few)
