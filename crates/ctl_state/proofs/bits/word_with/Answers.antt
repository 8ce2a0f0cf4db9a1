use Rattle.std.proofs.Common.{◌==◌, Bool, cond, sym, ap, ◌∙◌}
use Rattle.std.specs.Int.{bit_at}
use Rattle.ctl_state.specs.Bits.{as_bit}
use Rattle.ctl_state.proofs.BitLemmas.{word_set, word_cleared}
use Rattle.ctl_state.proofs.bits.word_with.Goals as goal

pub returns-then-on : goal.returns-then-on
returns-then-on c = λ i within. word_set c.args.word c.args.bit c.requires.few i ∙ ap (λ (x : Bool). cond (i == c.args.bit) (as_bit x) (bit_at c.args.word i)) (sym c.if-on.true)

pub returns : goal.returns
returns c = λ i within. word_cleared c.args.word c.args.bit c.requires.few i within ∙ ap (λ (x : Bool). cond (i == c.args.bit) (as_bit x) (bit_at c.args.word i)) (sym c.if-on.false)
