-- Calls on messages leave the ends of an owner sound (own choice).
use Rattle.std.specs.Prelude.{◌≡◌, false, List}
use Rattle.spec_pattern.specs.PipeStep.{PipeStep}
use Rattle.msg_pipe.specs.Known.{Known}
use Rattle.end_table.specs.Rows.{Table}
use Rattle.end_table.specs.Runs.{DoesAll, seals}
use Rattle.end_table.specs.declared.table.Place.{Place}
use Rattle.end_table.specs.Sound.{IsSound}

module _ {S O I N : Type 0} (K : Known S O I N) where
  -- calls that seal no pipe leave all ends as they are known at their places
  abbrev pub KeepsSound : Type 0
  KeepsSound = (steps : List PipeStep) (old new : Table S O I) (places : List (Place N I)) →
      DoesAll K old steps new → seals steps ≡ false → IsSound K old.pipes old.rows places → IsSound K new.pipes new.rows places
