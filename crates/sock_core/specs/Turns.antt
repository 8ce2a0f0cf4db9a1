-- The states of an end by number (own choice).
use Rattle.std.specs.Prelude.{ℕ}
use Rattle.spec_control.specs.declared.end.EndState.{EndState}
use Rattle.spec_control.specs.declared.end.EndState.TheVariants.{Active, DelimiterGot, WaitDelimiter, AckSent, AskedOnce, AskedTwice, Gone}

abbrev pub state_number : EndState → ℕ
state_number Active = 0
state_number DelimiterGot = 1
state_number WaitDelimiter = 2
state_number AckSent = 3
state_number AskedOnce = 4
state_number AskedTwice = 5
state_number Gone = 6
