use Rattle.std.proofs.Common.{ap, ◌∙◌}
use Rattle.zq_world.specs.Shown.{journal_with}
use Rattle.zq_world.proofs.script.told.Goals as goal

pub returns-in_err-actors-clause-orderly : goal.returns-in_err-actors-clause-orderly
returns-in_err-actors-clause-orderly g c = c.known.ensures

pub returns-in_err-shown-clause-orderly : goal.returns-in_err-shown-clause-orderly
returns-in_err-shown-clause-orderly g c = c.known.ensures

pub returns-clause-orderly : goal.returns-clause-orderly
returns-clause-orderly g c = c.known.ensures

pub returns-clause-shows : goal.returns-clause-shows
returns-clause-shows g c = (c.in_ok-shown.shown, c.in_ok-shown.ensures, c.journal_of.ensures ∙ ap (λ lines. journal_with lines c.in_ok-shown.shown) c.in_ok-actors.ensures)
