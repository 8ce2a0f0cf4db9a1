use Rattle.std.specs.Prelude.{refl}
use Rattle.ctl_plane.proofs.BeginLemmas.{begins_now}
use Rattle.ctl_plane.proofs.PlaneLemmas.{plane_begins, begins_empty}
use Rattle.ctl_plane.proofs.history.History.new.Goals as goal

pub invariant_of-result : goal.invariant_of-result
invariant_of-result g c =
    plane_begins g.P.Pipes.known.out_name g.P.Pipes.known.in_name _ c.args.workers _ _ refl c.in_ok-state.ensures.boxes c.in_ok-events.ensures
    (begins_now _ c.args.workers _ _ c.requires.few c.in_ok-state.ensures.stands refl c.in_ok-state.ensures.boxes c.in_ok-events.ensures)

pub returns : goal.returns
returns g c = begins_empty g.P.Pipes.known.out_name g.P.Pipes.known.in_name c.in_ok-state.state c.args.workers _ _ refl c.in_ok-state.ensures.boxes c.in_ok-events.ensures
