use Rattle.replay_laws.proofs.DoneLemmas.{end_in_time, done_in_time, shown_in_time}
use Rattle.replay_laws.proofs.done.runs_are_done_in_time.Goals as goal

pub returns-clause-ended : goal.returns-clause-ended
returns-clause-ended c start = end_in_time _ _

pub returns-clause-done : goal.returns-clause-done
returns-clause-done c start = done_in_time _ _

pub returns-clause-shown : goal.returns-clause-shown
returns-clause-shown c start = shown_in_time _ _
