use Rattle.core_laws.proofs.MoveLemmas as lemmas
use Rattle.core_laws.proofs.reaper.reaper_changes_are_of_pipes.Goals as goal

pub returns : goal.returns
returns g c = lemmas.reaper_changes_are_of_pipes g.P.Pipes.known _ c.changes_are_of_pipes.ensures
