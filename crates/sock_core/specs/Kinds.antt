-- The state of a socket's kind as the control plane knows of it (own choice).
use Rattle.std.specs.Prelude.{ℕ, true}
use Rattle.spec_pattern.specs.TurnList.{End}

-- no end is at any place: the kind is one for all ends
abbrev pub no_ends : ℕ → End
no_ends place = record { pair = record { 0 = 0 }; a = true }
