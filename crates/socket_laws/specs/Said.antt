-- The delimiters that are told with the items of a socket's calls on the control plane are those that were written (own choice, after libzmq's `pipe_t`).
use Rattle.std.specs.Prelude.{◌≡◌, ◌++◌, List, flat_map, map}
use Rattle.zq_base.specs.declared.ids.EndId.{EndId}
use Rattle.spec_pattern.specs.PipeStep.{Seal}
use Rattle.spec_control.specs.Moments.{Moment, left_by}
use Rattle.desk.specs.Turns.{sealed_by, turned_in}
use Rattle.spec_run.specs.Act.{steps_in}
use Rattle.spec_run.specs.Event.{acts_said}
use Rattle.end_table.specs.declared.changes.PipeChange.{PipeChange}
use Rattle.end_table.specs.Changes.{sealings_in}
use Rattle.sock_core.specs.Noted.{TellsSeals}
use Rattle.socket_laws.specs.Changes.{delimited_in, AreNew}

-- the ends that a holder is told to seal in these moments
abbrev pub sealed_with : {N T : Type 0} → List (Moment N T) → List EndId
sealed_with ms = sealed_by (flat_map (λ m. turned_in m.found (left_by m)) ms)

-- where a socket was told to seal just these, and each for the first time, the steps of the items are those of the delimiters that were written
abbrev pub StepsAreSaid : (S O I N T : Type 0) → Type 0
StepsAreSaid S O I N T = (before now : List EndId) (changes : List (PipeChange O I × S)) (ms : List (Moment N T)) →
    TellsSeals before (sealings_in changes) now → now ≡ before ++ sealed_with ms → AreNew before (sealed_with ms) →
    map Seal (delimited_in changes) ≡ steps_in (flat_map acts_said ms)
