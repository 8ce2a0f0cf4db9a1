use Rattle.std.proofs.Common.{arith}
use Rattle.ctl_state.proofs.BitLemmas.{lowest_there, none_set, set_there, zero_more}
use Rattle.ctl_state.proofs.bits.lowest_bit.Goals as goal

pub each-preserved : goal.each-preserved
each-preserved c = zero_more c.args.words.now c.each.place c.each.invariant c.if-word-ne0.false

pub returns-then-word-ne0-clause-some : goal.returns-then-word-ne0-clause-some
returns-then-word-ne0-clause-some c = lowest_there c.args.words.now c.each.place c.if-word-ne0.true (omega (arith, c.type_inv.words c.each.place)) c.each.invariant

pub returns-then-word-ne0-clause-set : goal.returns-then-word-ne0-clause-set
returns-then-word-ne0-clause-set c = set_there c.args.words.now c.each.place c.if-word-ne0.true (omega (arith, c.type_inv.words c.each.place))

pub returns-clause-none : goal.returns-clause-none
returns-clause-none c = none_set c.args.words.now c.each.place c.each-test.false c.each.invariant
