-- How calls of a core are told (own choice).
use Rattle.std.specs.Prelude.{ℕ, false, List, [], ◌∷◌}
use Rattle.zq_world.specs.declared.marks.ActMark.TheVariants.{NextItem}
use Rattle.zq_world.specs.declared.marks.PieceMark.{PieceMark}

-- a call that is the next item, and no step at a pipe
abbrev pub item_marks : ℕ → List PieceMark
item_marks k = record { by = k; reaps = false; acts = NextItem ∷ []; skips = [] } ∷ []
