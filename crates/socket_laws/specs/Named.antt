-- Which pairs the pipes are of that a control run gave names (own choice).
use Rattle.std.specs.Prelude.{◌≡◌, ◌<◌, ℕ, List, Some}
use Rattle.zq_base.specs.Ends.{PipeId}
use Rattle.spec_control.specs.declared.entry.Item.{Item}
use Rattle.spec_control.specs.Control.{begun, next_pair}
use Rattle.spec_control.specs.ControlRun.{after_all, IsControlRun}
use Rattle.spec_control.specs.Names.{name_of}

-- a pipe with a name is of a pair that has its number
abbrev pub NamesAreMade : (N S : Type 0) → Type 0
NamesAreMade N S = (io : ℕ) (items : List (Item N S)) → IsControlRun (begun io) items → (p : PipeId) (n : N) → name_of items p ≡ Some n → p.pair.0 < next_pair (after_all items (begun io))
