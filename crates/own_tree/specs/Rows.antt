-- The rows of a context's objects, and what they say of its ownership tree (own choice, after libzmq's `own_t`).
use Rattle.std.specs.Prelude.{◌≡◌, ◌≢◌, ◌<◌, ◌^◌, ◌+◌, ◌&&◌, ◌==◌, ℕ, Bool, true, false, not, cond, List, [], ◌∷◌, Option, Some, None, map, count_by, slice_index_or, if◌then◌else◌}
use Rattle.zq_base.specs.declared.ids.ObjId.{ObjId}
use Rattle.spec_control.specs.declared.object.ObjState.{ObjState}
use Rattle.spec_control.specs.declared.object.ObjState.TheVariants.{Live, Asked, Ended}
use Rattle.spec_control.specs.declared.object.ObjKind.TheVariants.{Root}
use Rattle.spec_control.specs.declared.stage.Stage.{Stage}
use Rattle.spec_control.specs.declared.stage.Stage.TheVariants.{Alive, Told, Ending as Ends, Finished, Cleared}
use Rattle.spec_control.specs.declared.stage.Use.TheVariants.{Used}
use Rattle.spec_control.specs.OwnershipTree.{Object, Tree}
use Rattle.own_tree.specs.declared.row.Row.{Row}
use Rattle.own_tree.specs.declared.ending.Ending.{Ending}
use Rattle.own_tree.specs.declared.ending.Ending.TheVariants.{Ended as DidEnd, Owes, Behind, NotAsked}

-- what a number that no object has stands for: an object that nobody owns, and of which nothing is left
abbrev pub no_row : Row
no_row = record { owner = None; kind = Root; slot = record { 0 = 0 }; sent = 0; processed = 0; binds = 0; owed = 0; ends = 0; noted = true; plugged = true; request = Used; stage = Cleared }

-- the row of an object
abbrev pub row_at : List Row → ObjId → Row
row_at rows id = slice_index_or rows id.0 no_row

-- how far an object is that is in this stage
abbrev pub state_of : Stage → ObjState
state_of Alive = Live
state_of Told = Live
state_of Ends = Asked
state_of Finished = Ended
state_of Cleared = Ended

-- how far an object is
abbrev pub state_at : List Row → ObjId → ObjState
state_at rows id = state_of (row_at rows id).stage

-- what the tree shows of a row
abbrev pub object_of : Row → Object
object_of row = record { owner = row.owner; state = state_of row.stage }

-- the ownership tree of these rows
abbrev pub tree_of : List Row → Tree
tree_of rows = map object_of rows

-- the owner is there, and is this object
abbrev pub is_owner : ObjId → Option ObjId → Bool
is_owner id None = false
is_owner id (Some owner) = owner.0 == id.0

-- the objects that this one owns, where those of the tree are numbered from here on
abbrev pub children_from : ℕ → Tree → ObjId → List ObjId
children_from first [] id = []
children_from first (object ∷ tree) id =
    if is_owner id object.owner then record { 0 = first } ∷ children_from (first + 1) tree id
    else children_from (first + 1) tree id

-- the objects that this one owns, in order of making
abbrev pub children_of : Tree → ObjId → List ObjId
children_of tree id = children_from 0 tree id

abbrev pub lives_in : Stage → Bool
lives_in Alive = true
lives_in Told = true
lives_in Ends = true
lives_in Finished = false
lives_in Cleared = false

-- the object has not ended
abbrev pub lives : Row → Bool
lives row = lives_in row.stage

-- its Own is on its way
abbrev pub is_unnoted : Row → Bool
is_unnoted row = not row.noted

abbrev pub awaited_in : Stage → Bool
awaited_in Alive = false
awaited_in Told = true
awaited_in Ends = true
awaited_in Finished = true
awaited_in Cleared = false

-- it was told to end, and its owner has not processed its TermAck
abbrev pub is_awaited : Row → Bool
is_awaited row = awaited_in row.stage

-- its owner knows it, and it has not ended
abbrev pub is_known_to_live : Row → Bool
is_known_to_live row = lives row && row.noted

-- how many children of an object are so
abbrev pub children_where : (Row → Bool) → List Row → ObjId → ℕ
children_where test rows id = count_by (λ row. is_owner id row.owner && test row) rows

-- how many children of an object live, noted or not
abbrev pub living_children : List Row → ObjId → ℕ
living_children = children_where lives

-- how many children of an object are not noted yet
abbrev pub unnoted_children : List Row → ObjId → ℕ
unnoted_children = children_where is_unnoted

-- how many children of an object were told to end and have not acknowledged
abbrev pub awaited_children : List Row → ObjId → ℕ
awaited_children = children_where is_awaited

-- how many noted children of an object live
abbrev pub noted_living : List Row → ObjId → ℕ
noted_living = children_where is_known_to_live

-- how many objects have not ended
abbrev pub live_objects : List Row → ℕ
live_objects rows = count_by lives rows

-- 1 where the object's Plug is on its way
abbrev pub plugs_coming : Row → ℕ
plugs_coming row = cond row.plugged 0 1

-- an object's counts add up: what was sent to it is processed or on its way, and what it waits for is an end of its own or a child
pub record AddsUp (rows : List Row) (id : ObjId) : Type 0 where
  pub sent : (row_at rows id).sent ≡ (row_at rows id).processed
      + ((row_at rows id).binds + (plugs_coming (row_at rows id) + unnoted_children rows id))
  pub owed : (row_at rows id).owed ≡ (row_at rows id).ends + awaited_children rows id
  pub sent_fits : (row_at rows id).sent < 2 ^ 64
  pub ends_fit : (row_at rows id).ends < 2 ^ 32

-- the counts of each object add up
abbrev pub AllAddUp : List Row → Type 0
AllAddUp rows = (id : ObjId) → AddsUp rows id

-- in this stage an object with this owner may be asked: it was told, or is the root, which nobody tells
abbrev pub asked_from : Stage → Option ObjId → Bool
asked_from Alive None = true
asked_from Alive (Some owner) = false
asked_from Told owner = true
asked_from Ends owner = false
asked_from Finished owner = false
asked_from Cleared owner = false

-- the object may be asked to end
abbrev pub may_be_asked : Row → Bool
may_be_asked row = asked_from row.stage row.owner

-- what keeps an object that is not behind: what it is owed, or with nothing owed its noted children that live
abbrev pub owing : List Row → ObjId → ℕ
owing rows id = if (row_at rows id).owed == 0 then noted_living rows id else (row_at rows id).owed

-- an object was asked, and all that was sent to it is processed
pub record IsUpToDate (row : Row) : Type 0 where
  pub asked : state_of row.stage ≡ Asked
  pub level : row.sent ≡ row.processed

-- what an object that has not ended answers when it tries to end: of each object just one answer is right
abbrev pub IsRight : List Row → ObjId → Ending → Type 0
IsRight rows id NotAsked = state_at rows id ≡ Live
IsRight rows id (Behind sent processed) =
    (state_at rows id ≡ Asked) × (sent ≢ processed)
    × (sent ≡ (row_at rows id).sent) × (processed ≡ (row_at rows id).processed)
IsRight rows id (Owes n) = IsUpToDate (row_at rows id) × (n ≡ owing rows id) × (0 < n)
IsRight rows id DidEnd = IsUpToDate (row_at rows id) × (owing rows id ≡ 0)
