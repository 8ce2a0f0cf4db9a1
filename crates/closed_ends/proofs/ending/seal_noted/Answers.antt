use Rattle.std.proofs.Common.{List, [], ◌∷◌, ◌++◌, ap, ◌∙◌}
use Rattle.closed_ends.proofs.ending.seal_noted.Goals as goal

pub returns-clause-noted : goal.returns-clause-noted
returns-clause-noted g c = record {
  half = c.and.result;
  half_is = c.and.ensures ∙ ap (λ (l : List _). l ++ (c.seal.new.o, tt) ∷ []) (c.and-lent.ensures ∙ ap (λ (l : List _). l ++ (c.args.out.now, tt) ∷ []) c.new-half.ensures);
  noted = c.and-2.ensures;
}
