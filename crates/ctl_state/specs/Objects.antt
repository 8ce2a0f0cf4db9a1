-- The objects as they are kept, and the rows of the control state that they are.
use Rattle.std.specs.Prelude.{◌≡◌, ◌≢◌, ◌<◌, ◌+◌, ◌^◌, ℕ, true, false, List, [], ◌∷◌, ◌++◌, Option, Some, None, length, slice_index_or, slice_set, ◌≤◌}
use Rattle.zq_base.specs.declared.ids.EndId.{EndId}
use Rattle.zq_base.specs.declared.ids.ObjId.{ObjId}
use Rattle.zq_base.specs.declared.ids.PairId.{PairId}
use Rattle.zq_base.specs.declared.ids.SlotId.{SlotId}
use Rattle.spec_control.specs.declared.object.ObjState.TheVariants.{Ended}
use Rattle.spec_control.specs.declared.stage.Stage.TheVariants.{Alive}
use Rattle.spec_control.specs.declared.stage.Use.TheVariants.{Unused}
use Rattle.spec_control.specs.Row.{Row, no_options, nobody, is_socket, LinkEvent, link_after}
use Rattle.own_tree.specs.declared.row.Row.{Row as TreeRow}
use Rattle.own_tree.specs.Rows.{no_row, state_at, is_owner}
use Rattle.own_tree.specs.Changes.{change, made_row, root_row, with_end, with_made}
use Rattle.ctl_state.specs.declared.detail.Detail.{Detail}
use Rattle.ctl_state.specs.declared.detail.Made.{Made}
use Rattle.ctl_state.specs.declared.belongings.Belongings.{Belongings}
use Rattle.ctl_state.specs.Listed.{with_last}
use Rattle.ctl_state.specs.Lists.{owner_number, no_belongings, belongings_at, room_for, with_ends}

-- the tree's rows, and of each object what is known beside them and what belongs to it
pub record ObjectRows : Type 0 where
  pub tree : List TreeRow
  pub details : List Detail
  pub lists : List Belongings

-- what a number that no object has stands for
abbrev pub no_detail : Detail
no_detail = record { options = no_options; pair = None; accepted = false; stop = Unused; asked_link = true; asked_linger = true }

abbrev pub tree_row : ObjectRows → ℕ → TreeRow
tree_row kept i = slice_index_or kept.tree i no_row

abbrev pub detail_at : ObjectRows → ℕ → Detail
detail_at kept i = slice_index_or kept.details i no_detail

abbrev pub pair_number : Option PairId → Option ℕ
pair_number None = None
pair_number (Some pair) = Some pair.0

-- the row of the control state that these two are
abbrev pub row_of : TreeRow → Detail → Row
row_of t d = record {
  owner = owner_number t.owner;
  kind = t.kind;
  slot = t.slot.0;
  options = d.options;
  pair = pair_number d.pair;
  accepted = d.accepted;
  stage = t.stage;
  noted = t.noted;
  plugged = t.plugged;
  request = t.request;
  stop = d.stop;
  asked_link = d.asked_link;
  asked_linger = d.asked_linger;
}

abbrev pub kept_row : ObjectRows → ℕ → Row
kept_row kept i = row_of (tree_row kept i) (detail_at kept i)

-- how many binds are on their way to an object, and how many of its ends are attached and not gone
pub record Counts : Type 0 where
  pub binds : ℕ
  pub ends : ℕ

abbrev pub counts_of : TreeRow → Counts
counts_of t = record { binds = t.binds; ends = t.ends }

abbrev pub counts_at : ObjectRows → ℕ → Counts
counts_at kept i = counts_of (tree_row kept i)

-- the same objects, with this tree
abbrev pub with_tree : List TreeRow → ObjectRows → ObjectRows
with_tree tree kept = record kept { tree = tree }

-- the same objects, with these lists
abbrev pub with_lists : List Belongings → ObjectRows → ObjectRows
with_lists lists kept = record kept { lists = lists }

-- the same objects, with what is known of one changed
abbrev pub with_detail : (Detail → Detail) → ℕ → ObjectRows → ObjectRows
with_detail f i kept = record kept { details = slice_set kept.details i (f (detail_at kept i)) }

-- an end is attached to an object, which then waits until it is gone
abbrev pub with_attached : ObjId → EndId → ObjectRows → ObjectRows
with_attached id e kept = with_lists (with_ends (with_last e) id.0 kept.lists) (with_tree (change with_end id kept.tree) kept)

-- the objects with one more, under this owner, with room for so many ends
abbrev pub with_roomy : (ends : ℕ) → ObjId → Made → ObjectRows → ObjectRows
with_roomy ends owner made kept = record {
  tree = with_made owner made.kind made.slot made.plug kept.tree;
  details = kept.details ++ made.detail ∷ [];
  lists = kept.lists ++ room_for ends ∷ [];
}

-- the same with room for none
abbrev pub with_object : ObjId → Made → ObjectRows → ObjectRows
with_object = with_roomy 0

-- the objects of a context at its making: its root
abbrev pub root_kept : SlotId → ObjectRows
root_kept slot = record { tree = root_row slot ∷ []; details = no_detail ∷ []; lists = no_belongings ∷ [] }

-- the objects with another row in place of this one's; the counts, what was sent to each, and the lists are as before
pub record Becomes (i : ℕ) (row : Row) (old new : ObjectRows) : Type 0 where
  pub there : i < length old.tree
  pub here : kept_row new i ≡ row
  pub elsewhere : (j : ℕ) → j ≢ i → kept_row new j ≡ kept_row old j
  pub many : length new.tree ≡ length old.tree
  pub counts : (j : ℕ) → counts_at new j ≡ counts_at old j
  pub sent : (j : ℕ) → (tree_row new j).sent ≡ (tree_row old j).sent
  pub lists : new.lists ≡ old.lists

-- the row of a new object
abbrev pub row_made : ObjId → Made → Row
row_made owner made = row_of (made_row owner made.kind made.slot made.plug) made.detail

-- an object more, with this row, to which nothing belongs, with room for so many ends; the counts and lists of the others are as before, and to each at most one command more was sent
pub record MakesRow (ends : ℕ) (row : Row) (old new : ObjectRows) : Type 0 where
  pub here : kept_row new (length old.tree) ≡ row
  pub elsewhere : (j : ℕ) → j ≢ length old.tree → kept_row new j ≡ kept_row old j
  pub many : length new.tree ≡ length old.tree + 1
  pub counts : (j : ℕ) → counts_at new j ≡ counts_at old j
  pub sent : (j : ℕ) → (tree_row new j).sent ≤ (tree_row old j).sent + 1
  pub lists : new.lists ≡ old.lists ++ room_for ends ∷ []

-- this happens between an object and its owner
abbrev pub Links : LinkEvent → ℕ → ObjectRows → ObjectRows → Type 0
Links event i old new = Becomes i (link_after event (kept_row old i)) old new

-- the rows are these objects
pub record AreObjects (kept : ObjectRows) (rows : List Row) : Type 0 where
  pub each : (i : ℕ) → slice_index_or rows i nobody ≡ kept_row kept i
  pub many : length rows ≡ length kept.tree

-- one more object may be made under this owner
pub record TakesChild (kept : ObjectRows) (owner : ObjId) : Type 0 where
  pub unended : state_at kept.tree owner ≢ Ended
  pub few : length kept.tree < 2 ^ 32
  pub fits : (tree_row kept owner.0).sent + 1 < 2 ^ 64

-- one more end may be attached to an object, in room that was kept
pub record TakesEnd (kept : ObjectRows) (o : ObjId) : Type 0 where
  pub unended : state_at kept.tree o ≢ Ended
  pub fits : (tree_row kept o.0).ends + 1 < 2 ^ 32
  pub room : 0 < (belongings_at kept.lists o.0).ends.spare

-- one more bind may be put for an object
pub record TakesBind (kept : ObjectRows) (o : ObjId) : Type 0 where
  pub unended : state_at kept.tree o ≢ Ended
  pub fits : (tree_row kept o.0).sent + 1 < 2 ^ 64

-- a child of an object that has not ended
pub record IsChild (kept : ObjectRows) (owner child : ObjId) : Type 0 where
  pub unended : state_at kept.tree owner ≢ Ended
  pub owned : (tree_row kept child.0).owner ≡ Some owner

-- a child that lives and was not told, of an object that has not ended
pub record IsLivingChild (kept : ObjectRows) (owner child : ObjId) : Type 0 where
  pub unended : state_at kept.tree owner ≢ Ended
  pub owned : (tree_row kept child.0).owner ≡ Some owner
  pub alive : (tree_row kept child.0).stage ≡ Alive

-- the root owns the sockets, and nothing else
pub record RootOwnsSockets (kept : ObjectRows) : Type 0 where
  pub each : (i : ℕ) → is_socket (tree_row kept i).kind ≡ is_owner (record { 0 = 0 }) (tree_row kept i).owner
