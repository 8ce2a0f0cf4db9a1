use Rattle.end_table.proofs.CallLemmas.{calls_sound}
use Rattle.end_table.proofs.held_laws.calls_keep_ends_sound.Goals as goal

pub returns : goal.returns
returns g c = calls_sound g.P.Pipes.known
