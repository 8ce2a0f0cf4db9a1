use Rattle.ctl_state.proofs.PremiseLemmas.{all_met}
use Rattle.ctl_state.proofs.state.State.needs.Goals as goal

pub returns : goal.returns
returns g c = λ k h. all_met c.args.self.now k h c.needs.ensures
