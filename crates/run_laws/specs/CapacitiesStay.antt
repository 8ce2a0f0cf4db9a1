-- The capacity of a pipe over a run, and so its exact steps (zmq_setsockopt(3), ZMQ_SNDHWM and ZMQ_RCVHWM; own choice).
use Rattle.std.specs.Prelude.{◌≡◌, ◌<◌, ℕ, List, []}
use Rattle.std.specs.List.{AllByRecursion}
use Rattle.zq_base.specs.Ends.{PipeId}
use Rattle.spec_pattern.specs.PipeStep.{PipeStep, Commit, FullLook, RoomLook, Take, EmptyLook, DelimiterLook, WaitingLook, Seal, AreExact}
use Rattle.spec_control.specs.declared.entry.Item.{Item}
use Rattle.spec_control.specs.Control.{begun, next_pair}
use Rattle.spec_control.specs.ControlRun.{after_all, IsControlRun}
use Rattle.spec_run.specs.OwnedRun.{pipe_capacity}

-- once a pair has its number, the capacities of its pipes stay, whatever comes
abbrev pub CapacitiesStay : (N S : Type 0) → Type 0
CapacitiesStay N S = (io : ℕ) (items more : List (Item N S)) → IsControlRun (begun io) items → IsControlRun (after_all items (begun io)) more →
    (p : PipeId) → p.pair.0 < next_pair (after_all items (begun io)) →
    pipe_capacity (after_all more (after_all items (begun io))) p ≡ pipe_capacity (after_all items (begun io)) p

-- the pipe that a step is made at
abbrev pub pipe_at : PipeStep → PipeId
pipe_at (Commit p m) = p
pipe_at (FullLook p) = p
pipe_at (RoomLook p) = p
pipe_at (Take p m) = p
pipe_at (EmptyLook p) = p
pipe_at (DelimiterLook p) = p
pipe_at (WaitingLook p) = p
pipe_at (Seal p) = p

-- so steps at pipes of such pairs that were exact stay exact
abbrev pub StepsStayExact : (N S : Type 0) → Type 0
StepsStayExact N S = (io : ℕ) (items more : List (Item N S)) → IsControlRun (begun io) items → IsControlRun (after_all items (begun io)) more →
    (steps : List PipeStep) → AllByRecursion (λ s. (pipe_at s).pair.0 < next_pair (after_all items (begun io))) steps →
    AreExact (pipe_capacity (after_all items (begun io))) [] steps → AreExact (pipe_capacity (after_all more (after_all items (begun io)))) [] steps
