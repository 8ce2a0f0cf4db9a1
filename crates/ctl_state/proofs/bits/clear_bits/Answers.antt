use Rattle.std.proofs.Common.{arith, ◌∙◌}
use Rattle.ctl_state.proofs.BitLemmas.{clear_more, stays_set}
use Rattle.ctl_state.proofs.bits.clear_bits.Goals as goal

pub each-preserved : goal.each-preserved
each-preserved c =
    let inv = c.each.invariant in
    let test = c.each-test.true in
    let from = inv.from in
    record {
      within = omega (arith, test);
      from = omega (arith, from);
      long = c.set_bit.ensures.long ∙ inv.long;
      before = λ k below. stays_set c.each.words.items c.set_bit.new.words.items c.each.place c.set_bit.ensures.each k (λ same. omega (arith, same, below, from)) ∙ inv.before k below;
      clear = clear_more c.each.words.items c.set_bit.new.words.items c.each.place c.set_bit.ensures.each c.args.from inv.clear;
      behind = λ k above. stays_set c.each.words.items c.set_bit.new.words.items c.each.place c.set_bit.ensures.each k (λ same. omega (arith, same, above)) ∙ inv.behind k (omega (arith, above));
    }
