use Rattle.std.specs.Prelude.{map}
use Rattle.std.proofs.Common.{ap, ◌∙◌}
use Rattle.ctl_moves.specs.Noting.{noted_join}
use Rattle.ctl_moves.proofs.noting.note_met.Goals as goal

pub returns-clause-ends : goal.returns-clause-ends
returns-clause-ends g c = c.note_ends.ensures

pub returns-clause-joined : goal.returns-clause-joined
returns-clause-joined g c = λ k h. c.of_vec.ensures ∙ c.note_joined.ensures k h ∙ ap (map (noted_join k)) c.into_vec-joined.ensures
