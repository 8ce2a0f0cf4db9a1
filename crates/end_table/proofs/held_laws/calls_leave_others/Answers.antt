use Rattle.end_table.proofs.CallLemmas.{calls_leave}
use Rattle.end_table.proofs.held_laws.calls_leave_others.Goals as goal

pub returns : goal.returns
returns g c = calls_leave g.P.Pipes.known
