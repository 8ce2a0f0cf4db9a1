use Rattle.std.specs.Prelude.{length, map}
use Rattle.plain_desk.proofs.GivenLemmas.{desk_given}
use Rattle.plain_desk.proofs.one_desk.OneDesk.given_are_its.Goals as goal

pub returns : goal.returns
returns g c = desk_given g.P.Pipes.known.in_name (map (λ x. x.0) c.self.inside.order.items) c.self.inside.history (length c.self.inside.wakers.items) c.self.inside.caller c.args.self.now c.self.view_is c.self.invariant.0 c.given_are_its.ensures
