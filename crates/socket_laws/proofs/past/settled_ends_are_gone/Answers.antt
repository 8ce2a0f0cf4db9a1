use Rattle.socket_laws.proofs.GoneLemmas as lemmas
use Rattle.socket_laws.proofs.past.settled_ends_are_gone.Goals as goal

pub returns : goal.returns
returns g c = lemmas.settled_ends_are_gone _ _ c.each_step_moves_ends_by_the_table.ensures c.each_event_is_made_of_steps.ensures c.ends_are_attached_once.ensures c.seals_are_told.ensures c.no_never_cell_is_met.ensures
