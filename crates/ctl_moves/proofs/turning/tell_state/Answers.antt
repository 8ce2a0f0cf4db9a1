use Rattle.std.proofs.Common.{ap, ◌∙◌}
use Rattle.ctl_state.specs.Pairs.{state_in}
use Rattle.ctl_moves.proofs.GiveLemmas.{told_now}
use Rattle.ctl_moves.proofs.turning.tell_state.Goals as goal

pub returns-in-Some-clause-turns : goal.returns-in-Some-clause-turns
returns-in-Some-clause-turns g c =
    λ w. told_now _ _ _ _ w.state (c.in-Some.ensures w.control w.stands ∙ ap state_in w.there) assumption

pub returns-in-Some-clause-stays : goal.returns-in-Some-clause-stays
returns-in-Some-clause-stays g c =
    assumption
