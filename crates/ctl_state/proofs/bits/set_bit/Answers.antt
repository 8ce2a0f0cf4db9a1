use Rattle.std.proofs.Common.{◌/◌, ◌%◌, ◌==◌, ℕ, cond, sym, ap, ◌∙◌}
use Rattle.std.specs.Int.{bit_at}
use Rattle.ctl_state.specs.Bits.{as_bit}
use Rattle.ctl_state.proofs.BitLemmas.{one_set, word_there}
use Rattle.ctl_state.proofs.bits.set_bit.Goals as goal

pub returns-clause-each : goal.returns-clause-each
returns-clause-each c = one_set c.args.words.now.items c.args.place (as_bit c.args.on) c.word_with.result c.requires.there
    (λ i within. c.word_with.ensures i within ∙ ap (λ (w : ℕ). cond (i == c.args.place % 64) (as_bit c.args.on) (bit_at w i)) (sym (word_there c.args.words.now.items (c.args.place / 64) c.index-word.result.now c.requires.there c.index-word.ensures)))
