use Rattle.socket_laws.proofs.DeskMessageLemmas as lemmas
use Rattle.socket_laws.proofs.calls.message_calls_stand.Goals as goal

pub returns : goal.returns
returns g c = λ kind. lemmas.message_calls_stand _ _ g.P.Pipes.known kind _
