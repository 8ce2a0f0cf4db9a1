use Rattle.plain_desk.proofs.OrderLemmas.{event_more}
use Rattle.plain_desk.proofs.laws.one_event_more.Goals as goal

pub returns : goal.returns
returns g c = event_more
