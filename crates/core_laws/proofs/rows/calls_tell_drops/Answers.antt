use Rattle.core_laws.proofs.DropLemmas as lemmas
use Rattle.core_laws.proofs.rows.calls_tell_drops.Goals as goal

pub returns : goal.returns
returns g c = lemmas.calls_tell_drops _ _
