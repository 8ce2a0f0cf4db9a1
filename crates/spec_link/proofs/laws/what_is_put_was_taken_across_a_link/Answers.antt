use Rattle.spec_link.proofs.AcrossLemmas.{crosses}
use Rattle.spec_link.proofs.laws.what_is_put_was_taken_across_a_link.Goals as goal

pub returns : goal.returns
returns c = λ opts other xs ys d e is h k all front. crosses opts other xs ys d e is h k all front
