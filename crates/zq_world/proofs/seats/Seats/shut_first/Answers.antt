use Rattle.std.proofs.Common.{arith}
use Rattle.zq_world.proofs.SeatLemmas.{first_is_open}
use Rattle.zq_world.proofs.seats.Seats.shut_first.Goals as goal

pub shut-requires-clause-here : goal.shut-requires-clause-here
shut-requires-clause-here g c = grind (arith, c.self.invariant, c.self.view_is, first_is_open c.args.self.now c.requires.some)
