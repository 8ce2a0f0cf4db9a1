use Rattle.std.specs.Prelude.{refl}
use Rattle.ctl_state.proofs.BeginLemmas.{begins_stand, begins_as}
use Rattle.ctl_state.proofs.state.State.new.Goals as goal

pub returns-clause-stands : goal.returns-clause-stands
returns-clause-stands g c = begins_stand _ c.args.workers refl c.in_ok-objects.ensures c.in_ok-pairs.ensures c.in_ok-boxes.ensures c.new-3.ensures

pub returns-clause-kept : goal.returns-clause-kept
returns-clause-kept g c = begins_as _ c.args.workers refl c.in_ok-objects.ensures c.in_ok-pairs.ensures c.in_ok-boxes.ensures c.new-3.ensures
