use Rattle.std.proofs.Common.{arith}
use Rattle.zq_outer.proofs.TapeLemmas.{nothing_left}
use Rattle.zq_outer.proofs.tape.Tape.is_empty.Goals as goal

pub returns : goal.returns
returns c = nothing_left c.self.inside.octets.items c.args.self.now c.self.inside.at c.len.result (omega arith) c.self.invariant c.self.view_is
