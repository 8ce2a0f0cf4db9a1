-- Marks of objects by their numbers (own choice).
use Rattle.std.specs.Prelude.{◌≡◌, ◌<◌, ℕ, Bool, true, false, List, if◌then◌else◌, length, nat_lt, slice_index_or, slice_set}
use Rattle.std.specs.List.{list_any}
use Rattle.zq_base.specs.declared.ids.ObjId.{ObjId}
use Rattle.run_laws.specs.EndOrder.{is_numbered}

-- an object is marked, where it is one of those that may be
abbrev pub marked : ℕ → List Bool → List Bool
marked i marks = if nat_lt i (length marks) then slice_set marks i true else marks

-- of so many objects those are marked that stand in a list
pub record AreMarked (many : ℕ) (objects : List ObjId) (marks : List Bool) : Type 0 where
  pub many_are : length marks ≡ many
  pub each : (i : ℕ) → i < many → slice_index_or marks i false ≡ list_any (is_numbered i) objects
