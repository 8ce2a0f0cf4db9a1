use Rattle.socket_laws.proofs.StandLemmas as lemmas
use Rattle.socket_laws.proofs.calls.socket_calls_stand.Goals as goal

pub returns : goal.returns
returns g c = λ kind made at req. lemmas.socket_calls_stand _ _ g.P.Pipes.known kind _ made _
