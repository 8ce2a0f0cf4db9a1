use Rattle.socket_laws.proofs.HoldLemmas as lemmas
use Rattle.socket_laws.proofs.own.made_pipes_hold.Goals as goal

pub returns : goal.returns
returns g c = lemmas.made_pipes_hold _ _
