use Rattle.socket_laws.proofs.StandLemmas as lemmas
use Rattle.socket_laws.proofs.calls.still_calls_stand.Goals as goal

pub returns : goal.returns
returns g c = λ kind made at req. lemmas.still_calls_stand _ _ g.P.Pipes.known kind _ made _
