use Rattle.std.proofs.Common.{◌∙◌}
use Rattle.ctl_state.proofs.EndingLemmas.{live_stands}
use Rattle.ctl_state.proofs.state.State.live.Goals as goal

pub returns : goal.returns
returns g c = λ k h. c.live.ensures ∙ live_stands c.args.self.now k h
