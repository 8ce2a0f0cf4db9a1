use Rattle.core_laws.proofs.NumberLemmas as lemmas
use Rattle.core_laws.proofs.reaper.no_socket_comes.Goals as goal

pub returns : goal.returns
returns g c = lemmas.no_socket_comes g.P.Pipes.known
