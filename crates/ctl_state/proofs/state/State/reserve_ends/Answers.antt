use Rattle.std.proofs.Common.{ap}
use Rattle.ctl_state.specs.Objects.{ObjectRows}
use Rattle.ctl_state.specs.Parts.{on_objects}
use Rattle.ctl_state.proofs.KeptLemmas.{so_on_err}
use Rattle.ctl_state.proofs.state.State.reserve_ends.Goals as goal

pub returns-clause-next : goal.returns-clause-next
returns-clause-next g c = ap (λ (o : ObjectRows). on_objects (λ _. o) c.args.self.now) c.in_ok-reserve_ends.ensures.ok

pub returns-in_err-reserve_ends-clause-err : goal.returns-in_err-reserve_ends-clause-err
returns-in_err-reserve_ends-clause-err g c = so_on_err _ _ (ap (λ (o : ObjectRows). on_objects (λ _. o) c.args.self.now) c.in_err-reserve_ends.ensures.err)
