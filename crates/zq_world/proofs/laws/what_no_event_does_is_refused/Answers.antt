use Rattle.zq_world.proofs.RefusedLemmas.{refused}
use Rattle.zq_world.proofs.laws.what_no_event_does_is_refused.Goals as goal

pub returns : goal.returns
returns g c = refused
