-- What goes in turns goes by each worker's own deeds (own choice).
use Rattle.std.specs.Prelude.{ℕ}
use Rattle.spec_run.specs.Script.{Script}
use Rattle.spec_run.specs.Worker.{roles}
use Rattle.spec_run.specs.OwnedRun.{OwnedRun, AllWork}
use Rattle.spec_run.specs.InTurns.{Turned, IsInTurns}

-- where a run goes in turns, each worker does what its role asks, by its own deeds alone
abbrev pub TurnsAreLocal : (N S : Type 0) → Type 0
TurnsAreLocal N S = (script : Script) (io limit : ℕ) (t : Turned N S) (run : OwnedRun N S) → IsInTurns script io limit t run →
    AllWork (roles script io) run.workers
