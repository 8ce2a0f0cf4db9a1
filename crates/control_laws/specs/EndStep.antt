-- What a step of the rows does to an end: it is attached, or an event of the table of its life comes that may come (own choice, after libzmq's `pipe_t`).
use Rattle.std.specs.Prelude.{◌≡◌, ◌⊎◌, ◌<◌, ℕ, Bool, true, length}
use Rattle.spec_control.specs.declared.end.EndState.{EndState}
use Rattle.spec_control.specs.declared.end.EndState.TheVariants.{Active}
use Rattle.spec_control.specs.declared.end.EndEvent.{EndEvent}
use Rattle.spec_control.specs.EndLife.{cell, comes, state_after}
use Rattle.spec_control.specs.Place.{Place, Unmade, Away, At}
use Rattle.spec_control.specs.Rows.{Rows, pair, end_place, Step}
use Rattle.control_laws.specs.Reached.{IsReached}

-- one end, before and after
pub data EndStep (old new : Place) : Type 0 where
  stays : new ≡ old → EndStep old new
  -- its pair was made, and its bind is on its way
  awaits : old ≡ Unmade → new ≡ Away → EndStep old new
  -- it was attached: with its pair's making, or by its bind
  attaches : (old ≡ Unmade) ⊎ (old ≡ Away) → new ≡ At Active → EndStep old new
  -- a cell of the table that goes on
  lives : (event : EndEvent) (state : EndState) → old ≡ At state → comes event state ≡ true → new ≡ At (state_after (cell event state) state) → EndStep old new

-- of each end of a pair that has a number
abbrev pub EndsLiveByTheTable : Type 0
EndsLiveByTheTable = (old new : Rows) → IsReached old → Step old new → (k : ℕ) (a : Bool) → k < length old.pairs →
    EndStep (end_place (pair old k) a) (end_place (pair new k) a)
