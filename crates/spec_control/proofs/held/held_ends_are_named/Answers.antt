use Rattle.spec_control.proofs.NamedLemmas.{held_ends_are_named}
use Rattle.spec_control.proofs.held.held_ends_are_named.Goals as goal

pub returns : goal.returns
returns c start = held_ends_are_named _ _
