-- A list, and room that is kept for elements that are still to come (own choice).
use Rattle.std.specs.Prelude.{◌+◌, ◌-◌, ℕ, List, [], ◌∷◌, ◌++◌}

-- the elements in order, and how many more may be added without memory
pub record Listed (T : Type 0) : Type 0 where
  pub items : List T
  pub spare : ℕ

module _ {T : Type 0} where
  -- a list at its making
  abbrev pub no_list : Listed T
  no_list = record { items = []; spare = 0 }

  -- the same elements, with so much more room
  abbrev pub with_room : ℕ → Listed T → Listed T
  with_room more list = record list { spare = list.spare + more }

  -- with so much less
  abbrev pub without_room : ℕ → Listed T → Listed T
  without_room fewer list = record list { spare = list.spare - fewer }

  -- an element more at the end, in room that was kept
  abbrev pub with_last : T → Listed T → Listed T
  with_last item list = record { items = list.items ++ item ∷ []; spare = list.spare - 1 }

  -- these elements, with the same room
  abbrev pub with_items : List T → Listed T → Listed T
  with_items items list = record list { items = items }
