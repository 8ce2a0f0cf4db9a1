use Rattle.std.proofs.Common.{arith}
use Rattle.zq_world.proofs.SeatLemmas.{has_open_is}
use Rattle.zq_world.proofs.seats.Seats.has_open.Goals as goal

pub returns : goal.returns
returns g c = grind (arith, c.len.ensures, c.self.invariant, c.self.view_is, has_open_is c.self.inside.seats.items)
