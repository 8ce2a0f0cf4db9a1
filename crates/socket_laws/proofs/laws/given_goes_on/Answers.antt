use Rattle.socket_laws.proofs.GivenLemmas as lemmas
use Rattle.socket_laws.proofs.laws.given_goes_on.Goals as goal

pub returns : goal.returns
returns g c = lemmas.given_goes_on _ _
