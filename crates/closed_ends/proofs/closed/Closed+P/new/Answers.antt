use Rattle.std.proofs.Common.{[], sym, subst}
use Rattle.closed_ends.specs.Sound.{AreSound}
use Rattle.closed_ends.proofs.FormLemmas.{are_sound}
use Rattle.closed_ends.proofs.SoundLemmas.{none_sound}
use Rattle.closed_ends.proofs.closed.Closed+P.new.Goals as goal

pub invariant_of-result : goal.invariant_of-result
invariant_of-result g c =
    record {
      indexed = c.none.ensures.indexed;
      sound = subst (λ l. AreSound g.P.Pipes.known c.args.pipes l) (sym c.none.ensures.none) (are_sound g.P.Pipes.known c.args.pipes [] (none_sound g.P.Pipes.known c.args.pipes));
      others = λ s t b. absurd b;
      done = λ s t b. absurd b;
      came = λ s t b. absurd b;
    }
