use Rattle.std.specs.Prelude.{ℕ, nat_lt}
use Rattle.std.proofs.Common.{ap}
use Rattle.spec_control.specs.Reply.{most_living_sockets}
use Rattle.ctl_moves.proofs.refusals.has_socket.Goals as goal

pub returns : goal.returns
returns g c = λ k h. ap (λ (n : ℕ). nat_lt n most_living_sockets) (c.living_sockets.ensures k h)
