-- What was run on one thread is a run in turns (own choice).
use Rattle.std.specs.Prelude.{◌≡◌, ℕ, Bool, List, [], map, true, nat_lt, length}
use Rattle.std.specs.List.{list_all}
use Rattle.spec_pattern.specs.PipeStep.{AreExact}
use Rattle.spec_control.specs.declared.entry.Item.{Item}
use Rattle.spec_control.specs.Control.{begun}
use Rattle.spec_control.specs.Held.{caller_of}
use Rattle.spec_control.specs.Moments.{moments_from}
use Rattle.spec_run.specs.Script.{Script}
use Rattle.spec_run.specs.Act.{moments_in}
use Rattle.spec_run.specs.OpenSocket.{OpenSock}
use Rattle.spec_run.specs.Standing.{standing_before}
use Rattle.spec_run.specs.OwnedRun.{OwnedRun, AreTold, pipe_capacity, control_at_end}
use Rattle.spec_run.specs.InTurns.{Turned, workers_in, worker_count, IsInTurns, IsOneThread}
use Rattle.zq_world.specs.Piece.{Piece, acts_in, pipe_steps}
use Rattle.zq_world.specs.declared.actor.Actor.{Actor}
use Rattle.zq_world.specs.Turning.{standings, RunsSo}

module _ {N S : Type 0} where
  -- the run of these turns, with the control plane's items in this order
  abbrev pub run_of : Script → Turned N S → List (Item N S) → OwnedRun N S
  run_of script turned order = record { workers = workers_in (worker_count script 1) turned; order = order }

-- a run of a script's actors, of which the control plane has these items in order, goes in turns
abbrev pub RunsGoInTurns : (O N S : Type 0) → Type 0
RunsGoInTurns O N S = (as_open : O → OpenSock) (script : Script) (seed limit : ℕ) (done : Bool) (old new : List (Actor O)) (pieces : List (Piece N S)) (order : List (Item N S)) →
    standings as_open old ≡ map standing_before script → (runs : RunsSo as_open seed limit done old new [] pieces) → moments_in (acts_in pieces) ≡ moments_from (begun 1) order →
    IsInTurns script 1 limit runs.turned (run_of script runs.turned order)

-- and is one on one thread, where each of its steps follows from those before it
abbrev pub RunsAreOnOneThread : (O N S : Type 0) → Type 0
RunsAreOnOneThread O N S = (as_open : O → OpenSock) (script : Script) (seed limit : ℕ) (done : Bool) (old new : List (Actor O)) (pieces : List (Piece N S)) (order : List (Item N S)) →
    standings as_open old ≡ map standing_before script → (runs : RunsSo as_open seed limit done old new [] pieces) → moments_in (acts_in pieces) ≡ moments_from (begun 1) order →
    AreExact (pipe_capacity (control_at_end 1 (run_of script runs.turned order))) [] (pipe_steps pieces) →
    IsOneThread seed script 1 runs.turned (run_of script runs.turned order)

-- each worker's items are those of the order by its number, in order, with what they found there
abbrev pub RunsAreTold : (O N S : Type 0) → Type 0
RunsAreTold O N S = (as_open : O → OpenSock) (script : Script) (seed limit : ℕ) (done : Bool) (old new : List (Actor O)) (pieces : List (Piece N S)) (order : List (Item N S)) →
    standings as_open old ≡ map standing_before script → (runs : RunsSo as_open seed limit done old new [] pieces) → moments_in (acts_in pieces) ≡ moments_from (begun 1) order →
    AreTold 0 (moments_from (begun 1) order) (run_of script runs.turned order).workers

-- and the order has no others
abbrev pub NobodyElseHasItems : (O N S : Type 0) → Type 0
NobodyElseHasItems O N S = (as_open : O → OpenSock) (script : Script) (seed limit : ℕ) (done : Bool) (old new : List (Actor O)) (pieces : List (Piece N S)) (order : List (Item N S)) →
    standings as_open old ≡ map standing_before script → (runs : RunsSo as_open seed limit done old new [] pieces) → moments_in (acts_in pieces) ≡ moments_from (begun 1) order →
    list_all (λ item. nat_lt (caller_of item) (length (run_of script runs.turned order).workers)) order ≡ true
