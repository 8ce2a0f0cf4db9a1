use Rattle.end_table.proofs.ExactLemmas.{exactly}
use Rattle.end_table.proofs.laws.calls_are_read_exactly.Goals as goal

pub returns : goal.returns
returns g c = λ goes capacity past steps old new one_name does named is.
    exactly g.P.Pipes.known c.requires (g.met.P.Pipes.one_out c.requires) (g.met.P.Pipes.one_in c.requires)
    goes capacity one_name old steps new past does named is
