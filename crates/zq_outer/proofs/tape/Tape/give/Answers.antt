use Rattle.std.proofs.Common.{◌∙◌, arith, sym}
use Rattle.zq_outer.proofs.TapeLemmas.{moved}
use Rattle.zq_outer.proofs.tape.Tape.give.Goals as goal

pub returns-clause-moved : goal.returns-clause-moved
returns-clause-moved c =
    let octets = c.self.inside.octets.items in
    let n = c.min-n.result in
    rw (c.copy_from_slice.ensures.after, c.deref.ensures.value) (sym c.self.view_is ∙ moved octets c.args.buf.now c.self.inside.at n (omega arith))
