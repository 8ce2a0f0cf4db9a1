-- The pipes that the holder of ends is told to seal are those that get their delimiters in a run (own choice, after libzmq's `pipe_t`).
use Rattle.std.specs.Prelude.{◌≡◌}
use Rattle.spec_control.specs.Moments.{Moment, left_by}
use Rattle.desk.specs.Turns.{sealed_by, turned_in}
use Rattle.spec_run.specs.Event.{seals_in}

-- what is told of in each moment, in the same order
abbrev pub SealsAreTold : (N S : Type 0) → Type 0
SealsAreTold N S = (m : Moment N S) → sealed_by (turned_in m.found (left_by m)) ≡ seals_in m
