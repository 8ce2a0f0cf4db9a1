-- What was run on one thread while a clock was read: once before the first turn, and at the end of each (own choice).
use Rattle.std.specs.Prelude.{ℕ, Bool, List}
use Rattle.zq_outer.specs.Readings.{ClockAt, ReadsClock}
use Rattle.spec_run.specs.Run.{Schedule}
use Rattle.spec_control.specs.declared.entry.Item.{Item}
use Rattle.spec_run.specs.declared.journal.ActorLines.{ActorLines}
use Rattle.spec_run.specs.declared.journal.Journal.{Journal}
use Rattle.spec_run.specs.Script.{Script}
use Rattle.spec_run.specs.OpenSocket.{OpenSock}
use Rattle.spec_run.specs.InTurns.{readings_of}
use Rattle.spec_run.specs.Journal.{IsRunJournal}
use Rattle.zq_world.specs.Piece.{Piece}
use Rattle.zq_world.specs.declared.actor.Actor.{Actor}
use Rattle.zq_world.specs.Played.{PlaysSo}
use Rattle.zq_world.specs.Turning.{RunsSo}

module _ {O N S : Type 0} (as_open : O → OpenSock) where
  -- the run is over, and its readings are those that the clock gave
  pub record RunsTimed (seed limit : ℕ) (done : Bool) (old new : List (Actor O)) (before after : List (Piece N S)) (clock clock_now : ClockAt) : Type 0 where
    pub runs : RunsSo as_open seed limit done old new before after
    pub reads : ReadsClock clock (readings_of runs.turned) clock_now

module _ {N S : Type 0} where
  -- a script was played, and the readings of its run are those that the clock gave
  pub record PlaysTimed (script : Script) (seed limit : ℕ) (lines : List ActorLines) (pieces : List (Piece N S)) (order : List (Item N S)) (clock clock_now : ClockAt) : Type 0 where
    pub plays : PlaysSo script seed limit lines pieces order
    pub reads : ReadsClock clock (readings_of plays.turned) clock_now

-- The journal is that of a run of the script by the schedule, whose readings are those that the clock gave.
pub record IsTimedJournal (N S : Type 0) (script : Script) (schedule : Schedule) (clock clock_now : ClockAt) (j : Journal) : Type 0 where
  pub is_journal : IsRunJournal N S script schedule j
  pub reads : ReadsClock clock (readings_of is_journal.turned) clock_now
