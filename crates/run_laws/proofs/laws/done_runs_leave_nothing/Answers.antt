use Rattle.spec_run.specs.OwnedRun.{control_at_end}
use Rattle.run_laws.proofs.DoneLemmas.{nothing_left, none_living}
use Rattle.run_laws.proofs.laws.done_runs_leave_nothing.Goals as goal

pub returns : goal.returns
returns c start = λ script io counts run is done.
    let left = nothing_left io run.order is.control done in
    record { nothing_left = left; none_live = none_living (control_at_end io run).rows.objects left.objects }
