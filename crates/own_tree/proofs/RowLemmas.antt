-- What the rows and their tree are behind the write of a row.
use Rattle.std.specs.Prelude.{◌≡◌, ◌≢◌, ◌<◌, ℕ, zero, suc, Bool, false, IsTrue, List, [], ◌∷◌, ◌++◌, length, Option, Some, None, slice_index_or, slice_set, refl}
use Rattle.std.proofs.Common.{arith, sym, ap, ◌∙◌, subst, inl, inr}
use Rattle.std.proofs.lemmas.List.{get_or_past, length-set, map-set, map-append, set-get_or}
use Rattle.std.proofs.lemmas.Bool.{cases_order}
use Rattle.zq_base.specs.declared.ids.ObjId.{ObjId}
use Rattle.zq_base.specs.declared.ids.SlotId.{SlotId}
use Rattle.spec_control.specs.declared.object.ObjKind.{ObjKind}
use Rattle.spec_control.specs.declared.object.ObjState.{ObjState}
use Rattle.spec_control.specs.declared.object.ObjState.TheVariants.{Live, Asked, Ended}
use Rattle.spec_control.specs.declared.stage.Stage.{Stage}
use Rattle.spec_control.specs.declared.stage.Stage.TheVariants.{Alive, Told, Ending, Finished, Cleared}
use Rattle.spec_control.specs.declared.stage.Use.TheVariants.{OnItsWay, Used}
use Rattle.spec_control.specs.OwnershipTree.{Object, Tree, object_at, with_state, Makes, Asks}
use Rattle.own_tree.specs.declared.row.Row.{Row}
use Rattle.own_tree.specs.Rows.{no_row, row_at, state_of, state_at, object_of, tree_of, asked_from, may_be_asked}
use Rattle.own_tree.specs.Changes.{change, in_stage, made_row, with_own, with_made, as_noted, one_more_processed, one_more_owed, one_less_owed, with_noted, with_told, with_cleared}
use Rattle.own_tree.proofs.WriteLemmas.{read_within, reads_same}

-- an object of which something is not as of a number that no object has, has a row
pub has_row_where : {X : Type 0} (g : Row → X) (rows : List Row) (id : ObjId) → (g (row_at rows id) ≡ g no_row → ⊥) → id.0 < length rows
has_row_where g rows id h =
    elim (cases_order id.0 (length rows)) [
      | inl same ↦ absurd (h (ap g (get_or_past rows id.0 no_row (omega (arith, same)))))
      | inr (inl below) ↦ below
      | inr (inr above) ↦ absurd (h (ap g (get_or_past rows id.0 no_row (omega (arith, above)))))
    ]

-- one that has not ended
pub has_row : (rows : List Row) (id : ObjId) → state_at rows id ≢ Ended → id.0 < length rows
has_row rows id h = has_row_where (λ (r : Row). state_of r.stage) rows id h

-- one with an owner
pub owned_has_row : (rows : List Row) (id owner : ObjId) → (row_at rows id).owner ≡ Some owner → id.0 < length rows
owned_has_row rows id owner o = has_row_where (λ (r : Row). r.owner) rows id (λ h. none_is_some (sym h ∙ o))
  where
    none_is_some : None ≡ Some owner → ⊥
    none_is_some k = grind arith

-- the tree shows what the row shows
pub object_at-tree_of : (rows : List Row) (id : ObjId) → object_at (tree_of rows) id ≡ object_of (row_at rows id)
object_at-tree_of rows id = read rows id.0
  where
    read : (rows : List Row) (i : ℕ) → slice_index_or (tree_of rows) i (object_of no_row) ≡ object_of (slice_index_or rows i no_row)
    read [] i = refl
    read (r ∷ rows) zero = refl
    read (r ∷ rows) (suc i) = read rows i

-- the tree of rows of which one was written
pub tree_of-set : (rows : List Row) (id : ObjId) (r : Row) (s : ObjState) → r.owner ≡ (row_at rows id).owner → state_of r.stage ≡ s →
    tree_of (slice_set rows id.0 r) ≡ with_state s id (tree_of rows)
tree_of-set rows id r s o e =
    map-set object_of rows id.0 r ∙ ap (λ (x : Object). slice_set (tree_of rows) id.0 x) shown
  where
    was : object_at (tree_of rows) id ≡ object_of (row_at rows id)
    was = object_at-tree_of rows id

    shown : object_of r ≡ record (object_at (tree_of rows) id) { state = s }
    shown =
        ap (λ (w : Option ObjId). let x : Object = record { owner = w; state = state_of r.stage } in x) (o ∙ sym (ap (λ (x : Object). x.owner) was))
        ∙ ap (λ (w : ObjState). let x : Object = record { owner = (object_at (tree_of rows) id).owner; state = w } in x) e

-- the tree stays where a row keeps its owner and its state
pub tree_of-set_same : (rows : List Row) (id : ObjId) (r : Row) → r.owner ≡ (row_at rows id).owner → state_of r.stage ≡ state_at rows id →
    tree_of (slice_set rows id.0 r) ≡ tree_of rows
tree_of-set_same rows id r o e =
    tree_of-set rows id r _ o (e ∙ sym (ap (λ (x : Object). x.state) (object_at-tree_of rows id)))
    ∙ set-get_or (tree_of rows) id.0 (object_of no_row)

-- a row that was read is the object's
pub row_read : (rows now : List Row) (id : ObjId) (x : Row) → rows ≡ now → id.0 < length now →
    x ≡ slice_index_or rows id.0 x → x ≡ row_at now id
row_read rows now id x same h read =
    read_within rows id.0 x no_row (subst (λ (l : List Row). id.0 < length l) (sym same) h) read
    ∙ ap (λ (l : List Row). row_at l id) same

-- a row that was read is written back changed
pub change_is : (f : Row → Row) (rows now : List Row) (id : ObjId) (x : Row) → rows ≡ now → id.0 < length now →
    x ≡ slice_index_or rows id.0 x → slice_set rows id.0 (f x) ≡ change f id now
change_is f rows now id x same h read =
    ap (λ (r : Row). slice_set rows id.0 (f r)) (row_read rows now id x same h read)
    ∙ ap (λ (l : List Row). slice_set l id.0 (f (row_at now id))) same

-- the rows once a child's row was changed, and then its owner's
pub both_are : (f g : Row → Row) (rows now : List Row) (child owner : ObjId) (x y : Row) → rows ≡ now → state_at now owner ≢ Ended → (row_at now child).owner ≡ Some owner →
    x ≡ slice_index_or rows child.0 x → y ≡ slice_index_or (slice_set rows child.0 (f x)) owner.0 y →
    slice_set (slice_set rows child.0 (f x)) owner.0 (g y) ≡ change g owner (change f child rows)
both_are f g rows now child owner x y same unended owned read next =
    change_is g (slice_set rows child.0 (f x)) (change f child rows) owner y
    (change_is f rows rows child x refl (subst (λ (l : List Row). child.0 < length l) (sym same) (owned_has_row now child owner owned)) read)
    (subst (λ n. owner.0 < n) (sym (length-set rows child.0 (f (row_at rows child)))) (subst (λ (l : List Row). owner.0 < length l) (sym same) (has_row now owner unended))) next

-- a number of its owner's row that the child's change keeps
pub owner_read : (n : Row → ℕ) (f : Row → Row) (rows now : List Row) (child owner : ObjId) (x y : Row) → ((r : Row) → n (f r) ≡ n r) → rows ≡ now → state_at now owner ≢ Ended → (row_at now child).owner ≡ Some owner →
    x ≡ slice_index_or rows child.0 x → y ≡ slice_index_or (slice_set rows child.0 (f x)) owner.0 y → n y ≡ n (row_at now owner)
owner_read n f rows now child owner x y keeps same unended owned read next =
    ap n (read_within (slice_set rows child.0 (f x)) owner.0 y no_row (subst (λ k. owner.0 < k) (sym (length-set rows child.0 (f x))) held) next)
    ∙ reads_same no_row n rows child owner (f x) there (keeps x ∙ ap n (read_within rows child.0 x no_row there read))
    ∙ ap (λ (l : List Row). n (row_at l owner)) same
  where
    there : child.0 < length rows
    there = subst (λ (l : List Row). child.0 < length l) (sym same) (owned_has_row now child owner owned)

    held : owner.0 < length rows
    held = subst (λ (l : List Row). owner.0 < length l) (sym same) (has_row now owner unended)

-- a row that keeps its owner and its state makes no move
pub keeps_tree : (rows now : List Row) (id : ObjId) (r x : Row) → rows ≡ now → id.0 < length now →
    x ≡ slice_index_or rows id.0 x → r.owner ≡ x.owner → state_of r.stage ≡ state_of x.stage → tree_of (slice_set rows id.0 r) ≡ tree_of now
keeps_tree rows now id r x same h read o s =
    let is = row_read rows now id x same h read in
    ap (λ (l : List Row). tree_of (slice_set l id.0 r)) same
    ∙ tree_of-set_same now id r (o ∙ ap (λ (w : Row). w.owner) is) (s ∙ ap (λ (w : Row). state_of w.stage) is)

-- the same of an object that has not ended
pub makes_no_move : (rows now : List Row) (id : ObjId) (r x : Row) → rows ≡ now → state_at now id ≢ Ended →
    x ≡ slice_index_or rows id.0 x → r.owner ≡ x.owner → state_of r.stage ≡ state_of x.stage → tree_of (slice_set rows id.0 r) ≡ tree_of now
makes_no_move rows now id r x same unended = keeps_tree rows now id r x same (has_row now id unended)

-- the tree behind a change of a child and one of its owner
pub tree_of-both : (f g : Row → Row) (owner child : ObjId) (rows : List Row) →
    ((r : Row) → (f r).owner ≡ r.owner) → ((r : Row) → (g r).owner ≡ r.owner) → ((r : Row) → (f r).stage ≡ r.stage) →
    state_of (g (row_at rows child)).stage ≡ state_at rows child → tree_of (change f owner (change g child rows)) ≡ tree_of rows
tree_of-both f g owner child rows fo go fs gs =
    let mid = change g child rows in
    tree_of-set_same mid owner (f (row_at mid owner)) (fo (row_at mid owner)) (ap state_of (fs (row_at mid owner)))
    ∙ tree_of-set_same rows child (g (row_at rows child)) (go (row_at rows child)) gs

pub tree_of-with_noted : (owner child : ObjId) (rows : List Row) → tree_of (with_noted owner child rows) ≡ tree_of rows
tree_of-with_noted owner child rows = tree_of-both one_more_processed as_noted owner child rows (λ r. refl) (λ r. refl) (λ r. refl) refl

pub tree_of-with_told : (owner child : ObjId) (rows : List Row) → (row_at rows child).stage ≡ Alive → tree_of (with_told owner child rows) ≡ tree_of rows
tree_of-with_told owner child rows alive = tree_of-both one_more_owed (in_stage Told) owner child rows (λ r. refl) (λ r. refl) (λ r. refl) (sym (ap state_of alive))

pub tree_of-with_cleared : (owner child : ObjId) (rows : List Row) → (row_at rows child).stage ≡ Finished → tree_of (with_cleared owner child rows) ≡ tree_of rows
tree_of-with_cleared owner child rows finished = tree_of-both one_less_owed (in_stage Cleared) owner child rows (λ r. refl) (λ r. refl) (λ r. refl) (sym (ap state_of finished))

-- who may be asked lives
pub asked_lives : (row : Row) → IsTrue (may_be_asked row) → state_of row.stage ≡ Live
asked_lives row h = by row.stage row.owner h
  where
    by : (s : Stage) (o : Option ObjId) → IsTrue (asked_from s o) → state_of s ≡ Live
    by Alive None h = refl
    by Alive (Some owner) h = refl
    by Told o h = refl
    by Ending o h = absurd (never h)
      where
        never : IsTrue false → ⊥
        never k = grind arith
    by Finished o h = absurd (never h)
      where
        never : IsTrue false → ⊥
        never k = grind arith
    by Cleared o h = absurd (never h)
      where
        never : IsTrue false → ⊥
        never k = grind arith

pub live_has_row : (rows : List Row) (id : ObjId) → state_at rows id ≡ Live → id.0 < length rows
live_has_row rows id live = has_row rows id (λ h. live_is_not_ended _ live h)
  where
    live_is_not_ended : (s : ObjState) → s ≡ Live → s ≡ Ended → ⊥
    live_is_not_ended s h k = grind arith

-- a request that is on its way is an object's
pub coming_has_row : (rows : List Row) (id : ObjId) → (row_at rows id).request ≡ OnItsWay → id.0 < length rows
coming_has_row rows id e = has_row_where (λ (r : Row). r.request) rows id (λ h. not_used (sym e ∙ h))
  where
    not_used : OnItsWay ≡ Used → ⊥
    not_used k = grind arith

-- an object that is asked
pub asks_from : (rows now : List Row) (id : ObjId) (r x : Row) → rows ≡ now → IsTrue (may_be_asked (row_at now id)) →
    x ≡ slice_index_or rows id.0 x → r.owner ≡ x.owner → state_of r.stage ≡ Asked →
    Asks id (tree_of now) (tree_of (slice_set rows id.0 r))
asks_from rows now id r x same may read o s =
    let live = asked_lives (row_at now id) may in
    let is = row_read rows now id x same (live_has_row now id live) read in
    record {
      live = ap (λ (w : Object). w.state) (object_at-tree_of now id) ∙ live;
      asked = ap (λ (l : List Row). tree_of (slice_set l id.0 r)) same ∙ tree_of-set now id r Asked (o ∙ ap (λ (w : Row). w.owner) is) s;
    }

-- an object that is made is a move of the tree
pub makes_from : (rows now : List Row) (owner : ObjId) (kind : ObjKind) (slot : SlotId) (plug : Bool) → rows ≡ now → state_at now owner ≢ Ended →
    Makes owner (tree_of now) (tree_of (with_made owner kind slot plug rows))
makes_from rows now owner kind slot plug same unended =
    record {
      unended = λ h. unended (sym (ap (λ (w : Object). w.state) (object_at-tree_of now owner)) ∙ h);
      added = map-append object_of (change (with_own kind) owner rows) (made_row owner kind slot plug ∷ [])
          ∙ ap (λ (l : Tree). l ++ object_of (made_row owner kind slot plug) ∷ []) (tree_of-set_same rows owner (with_own kind (row_at rows owner)) refl refl ∙ ap tree_of same);
    }
