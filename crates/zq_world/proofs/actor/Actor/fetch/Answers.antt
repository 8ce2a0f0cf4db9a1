use Rattle.std.proofs.lemmas.Result.{on_ok_weaker}
use Rattle.zq_world.proofs.FetchLemmas.{fetched_so}
use Rattle.zq_world.proofs.actor.Actor.fetch.Goals as goal

pub returns-clause-ok : goal.returns-clause-ok
returns-clause-ok g c =
    on_ok_weaker c.fetch.result (λ h. fetched_so g.W.Sockets.as_open c.args.number c.args.slot c.args.self.now c.fetch.new.self (g.W.Sockets.pieces c.args.way.now) (g.W.Sockets.pieces c.fetch.new.way) h) c.fetch.ensures.ok
