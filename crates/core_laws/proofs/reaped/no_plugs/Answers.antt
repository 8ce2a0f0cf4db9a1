use Rattle.core_laws.proofs.PlugLemmas as lemmas
use Rattle.core_laws.proofs.reaped.no_plugs.Goals as goal

pub returns : goal.returns
returns g c = lemmas.no_plugs _ _ _
