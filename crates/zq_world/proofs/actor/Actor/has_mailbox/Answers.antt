use Rattle.std.proofs.Common.{sym}
use Rattle.zq_world.specs.Seats.{socks_in}
use Rattle.zq_world.proofs.FetchLemmas.{none_has, one_has}
use Rattle.zq_world.proofs.actor.Actor.has_mailbox.Goals as goal

pub returns-in-Some : goal.returns-in-Some
returns-in-Some g c = sym (one_has c.args.slot (socks_in g.W.Sockets.as_open c.args.self.now.seats) _ c.in-Some.ensures.some.finds)

pub returns-in-None : goal.returns-in-None
returns-in-None g c = sym (none_has c.args.slot (socks_in g.W.Sockets.as_open c.args.self.now.seats) c.in-None.ensures.none)
