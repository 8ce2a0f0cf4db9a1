use Rattle.socket_laws.proofs.StandLemmas as lemmas
use Rattle.socket_laws.proofs.calls.closes_stand.Goals as goal

pub returns : goal.returns
returns g c = λ kind made at req. lemmas.closes_stand _ _ g.P.Pipes.known kind _ made _
