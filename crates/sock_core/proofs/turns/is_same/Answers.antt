use Rattle.std.proofs.Common.{ap, ◌∙◌, ◌==◌}
use Rattle.sock_core.specs.Turns.{state_number}
use Rattle.sock_core.proofs.TurnLemmas.{same_number}
use Rattle.sock_core.proofs.turns.is_same.Goals as goal

pub returns : goal.returns
returns c = ap (λ (n : _). n == c.number-2.result) c.number.ensures ∙ ap (λ (n : _). state_number c.args.one == n) c.number-2.ensures ∙ same_number c.args.one c.args.other
