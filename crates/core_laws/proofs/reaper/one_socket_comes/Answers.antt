use Rattle.core_laws.proofs.NumberLemmas as lemmas
use Rattle.core_laws.proofs.reaper.one_socket_comes.Goals as goal

pub returns : goal.returns
returns g c = lemmas.one_socket_comes g.P.Pipes.known
