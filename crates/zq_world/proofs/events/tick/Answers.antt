use Rattle.zq_world.proofs.EventLemmas.{one_more_tick}
use Rattle.zq_world.proofs.events.tick.Goals as goal

pub returns : goal.returns
returns g c = one_more_tick g.W.Sockets.as_open c.args.now c.args.actors.now (g.W.Sockets.pieces c.args.way.now)
