use Rattle.std.specs.Prelude.{refl}
use Rattle.std.proofs.Common.{arith}
use Rattle.replay_laws.proofs.done.worked_runs_have_their_times.Goals as goal

pub returns : goal.returns
returns c stories = record {
  closing_local = refl;
  closing = refl;
  term_local = refl;
  term = refl;
  closing_shown = refl;
  term_shown = refl;
  term_in_time = omega arith;
  short_cut = omega arith;
}
