use Rattle.std.proofs.Common.{arith}
use Rattle.ctl_moves.proofs.making.socket_made.Goals as goal

pub overflow_cast-slot : goal.overflow_cast-slot
overflow_cast-slot g c =
    let many = c.boxes.ensures c.requires.few.control c.requires.few.stands in
    let few = c.requires.few.is in
    omega (arith, many, few)
