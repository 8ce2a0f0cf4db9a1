-- Tests on how far an object is in its life, and on a command that comes once at most (own choice).
use Rattle.std.specs.Prelude.{Bool, true, false}
use Rattle.spec_control.specs.declared.stage.Stage.{Stage}
use Rattle.spec_control.specs.declared.stage.Stage.TheVariants.{Alive, Told, Ending, Finished, Cleared}
use Rattle.spec_control.specs.declared.stage.Use.{Use}
use Rattle.spec_control.specs.declared.stage.Use.TheVariants.{Unused, OnItsWay, Used}

-- nobody told the object to end
abbrev pub is_alive : Stage → Bool
is_alive Alive = true
is_alive Told = false
is_alive Ending = false
is_alive Finished = false
is_alive Cleared = false

-- its Term is on its way
abbrev pub is_told : Stage → Bool
is_told Alive = false
is_told Told = true
is_told Ending = false
is_told Finished = false
is_told Cleared = false

-- it was asked to end, and has not ended
abbrev pub is_ending : Stage → Bool
is_ending Alive = false
is_ending Told = false
is_ending Ending = true
is_ending Finished = false
is_ending Cleared = false

-- it was asked to end
abbrev pub was_asked : Stage → Bool
was_asked Alive = false
was_asked Told = false
was_asked Ending = true
was_asked Finished = true
was_asked Cleared = true

-- it has ended
abbrev pub has_ended : Stage → Bool
has_ended Alive = false
has_ended Told = false
has_ended Ending = false
has_ended Finished = true
has_ended Cleared = true

-- it has ended, and its owner has not processed the TermAck
abbrev pub is_finished : Stage → Bool
is_finished Alive = false
is_finished Told = false
is_finished Ending = false
is_finished Finished = true
is_finished Cleared = false

-- it has ended, and its owner has processed the TermAck
abbrev pub is_cleared : Stage → Bool
is_cleared Alive = false
is_cleared Told = false
is_cleared Ending = false
is_cleared Finished = false
is_cleared Cleared = true

-- the command was not put
abbrev pub is_unused : Use → Bool
is_unused Unused = true
is_unused OnItsWay = false
is_unused Used = false

-- the command is on its way
abbrev pub is_coming : Use → Bool
is_coming Unused = false
is_coming OnItsWay = true
is_coming Used = false

-- the command was processed
abbrev pub is_used : Use → Bool
is_used Unused = false
is_used OnItsWay = false
is_used Used = true
