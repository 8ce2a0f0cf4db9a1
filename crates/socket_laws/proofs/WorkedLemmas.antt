-- Items of open sockets in a small trial.
use Rattle.std.specs.Prelude.{◌≡◌, ℕ, refl}
use Rattle.std.proofs.Common.{arith}
use Rattle.spec_control.proofs.TrialLemmas.{trial_comes_out}
use Rattle.socket_laws.specs.Worked.{WorkedItems}

one_two : ◌≡◌ {A = ℕ} 1 2 → ⊥
one_two h = omega (arith, h)

pub worked_items : WorkedItems
worked_items stories =
    let all = trial_comes_out stories in
    let r = all.run_is in
    let b = all.callers_may in
    record {
      connects = record { run = (r.0, (r.1.0, (r.1.1.0, (r.1.1.1.0, tt)))); callers = (b.0, (b.1.0, (b.1.1.0, (b.1.1.1.0, tt)))); is_open = refl; of_it = refl };
      binds = record {
        run = (r.0, (r.1.0, (r.1.1.0, (r.1.1.1.0, (r.1.1.1.1.0, tt)))));
        callers = (b.0, (b.1.0, (b.1.1.0, (b.1.1.1.0, (b.1.1.1.1.0, tt)))));
        is_open = refl;
        of_it = refl;
      };
      other = λ comes_so. one_two comes_so.of_it;
      ends = refl;
      passes = refl;
    }
