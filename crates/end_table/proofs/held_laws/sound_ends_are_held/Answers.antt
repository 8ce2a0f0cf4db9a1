use Rattle.end_table.proofs.EndsLemmas.{ends_held}
use Rattle.end_table.proofs.held_laws.sound_ends_are_held.Goals as goal

pub returns : goal.returns
returns g c = λ rows places sound. ends_held g.P.Pipes.known c.args.pipes.now rows places sound
