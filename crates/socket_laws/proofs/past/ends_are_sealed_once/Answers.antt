use Rattle.socket_laws.proofs.AskedLemmas as lemmas
use Rattle.socket_laws.proofs.past.ends_are_sealed_once.Goals as goal

pub returns : goal.returns
returns g c = lemmas.ends_are_sealed_once _ _ c.each_step_moves_ends_by_the_table.ensures c.each_event_is_made_of_steps.ensures c.ends_are_attached_once.ensures c.seals_are_told.ensures
