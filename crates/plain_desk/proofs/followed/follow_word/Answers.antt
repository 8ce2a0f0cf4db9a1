use Rattle.std.proofs.Common.{arith, ◌∙◌}
use Rattle.plain_desk.proofs.NoteLemmas.{keeps_on}
use Rattle.plain_desk.proofs.followed.follow_word.Goals as goal

pub each-preserved : goal.each-preserved
each-preserved c =
    record {
      keeps = keeps_on _ _ _ c.each.invariant.keeps c.note.ensures.keeps;
      long = c.note.ensures.long ∙ c.each.invariant.long;
      others = λ m other. c.note.ensures.others m (λ same. other (omega (arith, same))) ∙ c.each.invariant.others m other;
    }
