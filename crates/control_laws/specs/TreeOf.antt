-- The ownership tree that the rows are, and that each step of the rows is a move of it (own choice, after libzmq's `own_t`).
use Rattle.std.specs.Prelude.{◌≡◌, ◌⊎◌, ◌||◌, ℕ, cond, map, Option, Some, None, sum_by}
use Rattle.zq_base.specs.declared.ids.ObjId.{ObjId}
use Rattle.spec_control.specs.OwnershipTree.{Object, Tree, IsMove}
use Rattle.spec_control.specs.Place.{Place, is_gone, is_unmade}
use Rattle.spec_control.specs.Row.{Row}
use Rattle.spec_control.specs.Rows.{Rows, of_ends, Step}
use Rattle.spec_control.specs.Control.{id}
use Rattle.spec_control.specs.Reply.{state_of}
use Rattle.control_laws.specs.Reached.{IsReached}

-- the id of an owner
abbrev pub owner_id : Option ℕ → Option ObjId
owner_id None = None
owner_id (Some owner) = Some (id owner)

-- the object that a row is
abbrev pub object_of : Row → Object
object_of o = record { owner = owner_id o.owner; state = state_of o.stage }

-- the tree that the rows are
abbrev pub tree_of : Rows → Tree
tree_of s = map object_of s.objects

-- 1 where an end was made and is not gone
abbrev pub is_left : Place → ℕ
is_left place = cond (is_gone place || is_unmade place) 0 1

-- how many ends of an object are not gone
abbrev pub ends_left : Rows → ObjId → ℕ
ends_left s i = sum_by (of_ends is_left i.0) s.pairs

-- each step of rows that are reached leaves their tree, or moves it: an object is made under one that has not ended, is asked, or ends after its children and its ends
abbrev pub StepsAreMoves : Type 0
StepsAreMoves = (old new : Rows) → IsReached old → Step old new → (tree_of new ≡ tree_of old) ⊎ IsMove (ends_left old) (tree_of old) (tree_of new)
