use Rattle.socket_laws.proofs.OwnQuietLemmas as lemmas
use Rattle.socket_laws.proofs.own.others_make_none.Goals as goal

pub returns : goal.returns
returns g c = lemmas.others_make_none _ _
