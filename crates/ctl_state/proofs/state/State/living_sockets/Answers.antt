use Rattle.std.proofs.Common.{◌∙◌}
use Rattle.ctl_state.proofs.EndingLemmas.{sockets_stand}
use Rattle.ctl_state.proofs.state.State.living_sockets.Goals as goal

pub returns : goal.returns
returns g c = λ k h. c.living_children.ensures ∙ sockets_stand c.args.self.now k h c.requires.sockets
