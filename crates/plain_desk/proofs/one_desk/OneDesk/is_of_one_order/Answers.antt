use Rattle.std.specs.Prelude.{length, map}
use Rattle.std.proofs.Common.{subst}
use Rattle.plain_desk.specs.Lent.{IsOneOrder}
use Rattle.plain_desk.proofs.LentLemmas.{one_order}
use Rattle.plain_desk.proofs.one_desk.OneDesk.is_of_one_order.Goals as goal

pub returns : goal.returns
returns g c = subst IsOneOrder c.self.view_is (one_order (map (λ x. x.0) c.self.inside.order.items) c.self.inside.history (length c.self.inside.wakers.items) c.self.inside.caller c.self.invariant.0 c.self.invariant.1.closed_sockets)
