-- What is kept beside the rows: an object's children, and how many of them live and are not noted.
use Rattle.std.specs.Prelude.{◌≡◌, ◌+◌, ◌^◌, ◌≤◌, ℕ, List, [], ◌∷◌, ◌++◌, map, length, slice_index_or, slice_set}
use Rattle.std.specs.declared.vec.Vec.{Vec}
use Rattle.zq_base.specs.declared.ids.ObjId.{ObjId}
use Rattle.spec_control.specs.declared.object.ObjKind.{ObjKind}
use Rattle.own_tree.specs.declared.row.Row.{Row}
use Rattle.own_tree.specs.declared.tally.Tally.{Tally}
use Rattle.own_tree.specs.Rows.{tree_of, children_of, living_children, unnoted_children, live_objects, AllAddUp}
use Rattle.own_tree.specs.Changes.{owns_of}

abbrev pub no_tally : Tally
no_tally = record { living = 0; unnoted = 0 }

abbrev pub tally_at : List Tally → ObjId → Tally
tally_at tallies id = slice_index_or tallies id.0 no_tally

abbrev pub list_at : List (List ObjId) → ObjId → List ObjId
list_at lists id = slice_index_or lists id.0 []

module _ {A : Type 0} where
  -- the lists of children, without the room that they have
  abbrev pub lists_of : List (Vec ObjId A) → List (List ObjId)
  lists_of vecs = map (λ v. v.items) vecs

-- the tallies once a child of this kind was made
abbrev pub with_counted : ObjId → ObjKind → List Tally → List Tally
with_counted owner kind tallies =
    slice_set tallies owner.0 (record { living = (tally_at tallies owner).living + 1; unnoted = (tally_at tallies owner).unnoted + owns_of kind })
    ++ no_tally ∷ []

-- the lists once a child was made
abbrev pub with_listed : ObjId → ObjId → List (List ObjId) → List (List ObjId)
with_listed owner child lists = slice_set lists owner.0 (list_at lists owner ++ child ∷ []) ++ [] ∷ []

-- an object's children are counted
pub record IsTally (rows : List Row) (id : ObjId) (tally : Tally) : Type 0 where
  pub living : tally.living ≡ living_children rows id
  pub unnoted : tally.unnoted ≡ unnoted_children rows id

-- what is kept beside the rows is right, and each object's counts add up
pub record AreTallied (rows : List Row) (tallies : List Tally) (lists : List (List ObjId)) (count : ℕ) : Type 0 where
  pub tallied : length tallies ≡ length rows
  pub listed : length lists ≡ length rows
  pub few : length rows ≤ 2 ^ 32
  pub each : (id : ObjId) → IsTally rows id (tally_at tallies id)
  pub children : (id : ObjId) → list_at lists id ≡ children_of (tree_of rows) id
  pub live : count ≡ live_objects rows
  pub add_up : AllAddUp rows
