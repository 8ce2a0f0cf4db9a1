-- What a session's tests of itself mean (own choice).
use Rattle.std.specs.Prelude.{◌≡◌, ◌⊎◌, Option, Some}
use Rattle.spec_control.specs.declared.end.EndState.{EndState}
use Rattle.spec_control.specs.declared.end.EndState.TheVariants.{Active, WaitDelimiter}

abbrev pub IsReadable : Option EndState → Type 0
IsReadable state = (state ≡ Some Active) ⊎ (state ≡ Some WaitDelimiter)

abbrev pub IsWritable : Option EndState → Type 0
IsWritable state = state ≡ Some Active
