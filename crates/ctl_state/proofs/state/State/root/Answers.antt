use Rattle.std.proofs.Common.{◌∙◌}
use Rattle.ctl_state.proofs.EndingLemmas.{root_stands}
use Rattle.ctl_state.proofs.state.State.root.Goals as goal

pub returns : goal.returns
returns g c = λ k h. c.root.ensures ∙ root_stands c.args.self.now k h
