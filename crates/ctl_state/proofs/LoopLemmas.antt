-- The loops over the children of an object.
use Rattle.std.specs.Prelude.{◌≡◌, ◌≢◌, ◌<◌, ◌≤◌, ◌+◌, ℕ, zero, suc, Bool, List, [], ◌∷◌, ◌++◌, Some, length, take, drop, slice_index_or, refl}
use Rattle.std.proofs.Common.{sym, ap, ◌∙◌, subst}
use Rattle.std.proofs.lemmas.List.{take_more, take_all, drop_more}
use Rattle.zq_base.specs.declared.ids.ObjId.{ObjId}
use Rattle.spec_control.specs.declared.object.ObjState.TheVariants.{Ended}
use Rattle.spec_control.specs.OwnershipTree.{Tree}
use Rattle.spec_control.specs.Row.{Row}
use Rattle.spec_control.specs.Control.{Control}
use Rattle.own_tree.specs.declared.row.Row.{Row as TreeRow}
use Rattle.own_tree.specs.Rows.{no_row, state_of, state_at, object_of, tree_of, children_of}
use Rattle.ctl_state.specs.declared.state.State.{State}
use Rattle.ctl_state.specs.Children.{done_for, HaveRoom}
use Rattle.ctl_state.specs.Objects.{tree_row, IsChild}
use Rattle.ctl_state.specs.Stands.{Stands, Updates}
use Rattle.ctl_state.proofs.ChildLemmas.{done_for-append, child_owned}
use Rattle.ctl_state.proofs.RoomLemmas.{room_first}
use Rattle.ctl_state.specs.Parts.{Tells}
use Rattle.ctl_state.proofs.BareLemmas.{tells_not, tells_on}

-- the children of an object at a call's entry
abbrev pub kids : {L : Type 0} → State L → ObjId → List ObjId
kids start owner = children_of (tree_of start.objects.tree) owner

-- what is to be done for the first n children is done
pub record GoneOn {L : Type 0} (test : Row → Bool) (f : ℕ → Control → Control) (start now : State L) (owner : ObjId) (n : ℕ) : Type 0 where
  pub stands : (c : Control) → Stands start c → Stands now (done_for f (take n (kids start owner)) c)
  pub shape : tree_of now.objects.tree ≡ tree_of start.objects.tree
  pub room : HaveRoom test now (drop n (kids start owner))
  pub only : Tells start now

state_read : (ts : List TreeRow) (i : ℕ) → state_of (slice_index_or ts i no_row).stage ≡ (slice_index_or (tree_of ts) i (object_of no_row)).state
state_read [] i = refl
state_read (t ∷ ts) zero = refl
state_read (t ∷ ts) (suc i) = state_read ts i

module _ {L : Type 0} (test : Row → Bool) (f : ℕ → Control → Control) (start : State L) (owner : ObjId) where
  pub begins : HaveRoom test start (kids start owner) → GoneOn test f start start owner 0
  begins room = record { stands = λ c h. h; shape = refl; room = room; only = tells_not start start refl refl }

  module _ (now : State L) (n : ℕ) (h : GoneOn test f start now owner n) where
    -- an object that has not ended goes on so
    unended_on : state_at start.objects.tree owner ≢ Ended → state_at now.objects.tree owner ≢ Ended
    unended_on unended e =
        unended (state_read start.objects.tree owner.0 ∙ ap (λ (t : Tree). (slice_index_or t owner.0 (object_of no_row)).state) (sym h.shape)
        ∙ sym (state_read now.objects.tree owner.0) ∙ e)

    -- the last child is done
    pub ends_on : length (kids start owner) ≤ n → (c : Control) → Stands start c → Stands now (done_for f (kids start owner) c)
    ends_on all c s = subst (λ (ids : List ObjId). Stands now (done_for f ids c)) (take_all n (kids start owner) all) (h.stands c s)

    module _ (child : ObjId) (within : n < length (kids start owner)) (is : child ≡ slice_index_or (kids now owner) n child) where
      was : child ≡ slice_index_or (kids start owner) n child
      was = is ∙ ap (λ (t : Tree). slice_index_or (children_of t owner) n child) h.shape

      at_front : drop n (kids start owner) ≡ child ∷ drop (n + 1) (kids start owner)
      at_front = drop_more (kids start owner) n child within ∙ ap (λ (i : ObjId). i ∷ drop (n + 1) (kids start owner)) (sym was)

      room_now : HaveRoom test now (child ∷ drop (n + 1) (kids start owner))
      room_now = subst (λ (ids : List ObjId). HaveRoom test now ids) at_front h.room

      pub room_on : HaveRoom test now (child ∷ [])
      room_on = room_first test now child (drop (n + 1) (kids start owner)) room_now

      owned_on : (tree_row now.objects child.0).owner ≡ Some owner
      owned_on = child_owned now.objects.tree owner n child (subst (λ (t : Tree). n < length (children_of t owner)) (sym h.shape) within) is

      pub child_on : state_at start.objects.tree owner ≢ Ended → IsChild now.objects owner child
      child_on unended = record { unended = unended_on unended; owned = owned_on }

      -- one child more
      pub goes_on : (new : State L) → Updates (f child.0) now new → tree_of new.objects.tree ≡ tree_of now.objects.tree →
          ((ids : List ObjId) → HaveRoom test now (child ∷ ids) → HaveRoom test new ids) → Tells now new → GoneOn test f start new owner (n + 1)
      goes_on new updates shape rest only = record {
        stands = λ c s. subst (λ (d : Control). Stands new d) (sym (more c)) (updates (done_for f (take n (kids start owner)) c) (h.stands c s));
        shape = shape ∙ h.shape;
        room = rest (drop (n + 1) (kids start owner)) room_now;
        only = tells_on start now new h.only only;
      }
        where
          more : (c : Control) → done_for f (take (n + 1) (kids start owner)) c ≡ f child.0 (done_for f (take n (kids start owner)) c)
          more c =
              ap (λ (ids : List ObjId). done_for f ids c) (take_more (kids start owner) n child within ∙ ap (λ (i : ObjId). take n (kids start owner) ++ i ∷ []) (sym was))
              ∙ done_for-append f (take n (kids start owner)) (child ∷ []) c
