use Rattle.end_table.proofs.OthersLemmas.{others_sound}
use Rattle.end_table.proofs.held_laws.others_stay_sound.Goals as goal

pub returns : goal.returns
returns g c = others_sound g.P.Pipes.known
