use Rattle.std.proofs.Common.{arith, sym, ◌+◌}
use Rattle.zq_base.proofs.NumberLemmas.{digit_in, value_more, value-take, number_in-above}
use Rattle.zq_base.proofs.number.number_in.Goals as goal

pub overflow_sub-digit : goal.overflow_sub-digit
overflow_sub-digit c = (digit_in c.args.word.now _ (sym (c.if-not-is_number.ensures)) (omega arith)).0

pub returns-then-from-value-clause-value : goal.returns-then-from-value-clause-value
returns-then-from-value-clause-value c =
    number_in-above _ _ _ (omega (arith, value_more c.args.word.now c.loop-digit.digit-index (sym (c.if-not-is_number.ensures)) (omega arith), value-take c.args.word.now (c.loop-digit.digit-index + 1)))

pub loop-digit-preserved : goal.loop-digit-preserved
loop-digit-preserved c = record {
  value = omega (arith, value_more c.args.word.now c.loop-digit.digit-index (sym (c.if-not-is_number.ensures)) (omega arith));
  small = omega arith;
}
