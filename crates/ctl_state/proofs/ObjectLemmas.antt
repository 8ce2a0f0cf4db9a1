-- How the kept objects change, and that they stay those of the control state.
use Rattle.std.specs.Prelude.{◌≡◌, ◌<◌, ◌⊎◌, ◌&&◌, ℕ, false, not, List, length, zero, suc, [], ◌∷◌, Option, Some, None, slice_get, slice_index_or, slice_set, refl, Bool, true}
use Rattle.std.proofs.Common.{arith, sym, ap, ◌∙◌, subst, inl, inr}
use Rattle.std.proofs.lemmas.Bool.{cases_eq}
use Rattle.std.proofs.lemmas.List.{length-set, get_or-set_same, get_or-set_other}
use Rattle.zq_base.specs.declared.ids.ObjId.{ObjId}
use Rattle.zq_base.specs.declared.ids.SlotId.{SlotId}
use Rattle.spec_control.specs.Row.{Row, nobody, is_socket}
use Rattle.spec_control.specs.Stage.{is_alive, is_unused}
use Rattle.own_tree.specs.declared.row.Row.{Row as TreeRow}
use Rattle.own_tree.specs.Rows.{no_row, row_at}
use Rattle.own_tree.specs.Changes.{change}
use Rattle.ctl_state.specs.declared.belongings.Belongings.{Belongings}
use Rattle.ctl_state.specs.declared.detail.Detail.{Detail}
use Rattle.ctl_state.specs.Objects.{ObjectRows, no_detail, row_of, tree_row, kept_row, with_tree, with_lists, Becomes, AreObjects, detail_at}
use Rattle.ctl_state.proofs.ReadLemmas.{read_kept}
use Rattle.ctl_state.specs.Children.{may_tell, may_stop}

-- the rows of the control state go with the objects
pub becomes_stand : (i : ℕ) (row : Row) (old new : ObjectRows) (rows : List Row) → Becomes i row old new → AreObjects old rows → AreObjects new (slice_set rows i row)
becomes_stand i row old new rows b h = record {
  each = λ j. at j (cases_eq j i);
  many = length-set rows i row ∙ h.many ∙ sym b.many;
}
  where
    within : i < length rows
    within = subst (λ (n : ℕ). i < n) (sym h.many) b.there

    at : (j : ℕ) → (j ≡ i) ⊎ (j ≡ i → ⊥) → slice_index_or (slice_set rows i row) j nobody ≡ kept_row new j
    at j (inl same) = subst (λ (n : ℕ). slice_index_or (slice_set rows i row) n nobody ≡ kept_row new n) (sym same) (get_or-set_same rows i row nobody within ∙ sym b.here)
    at j (inr other) = get_or-set_other rows i j row nobody other ∙ h.each j ∙ sym (b.elsewhere j other)

-- what is read past the rows
pub past : (tree : List TreeRow) (i : ℕ) → slice_get tree i ≡ None → slice_index_or tree i no_row ≡ no_row
past [] i h = refl
past (t ∷ tree) zero h = absurd (some_none h)
  where
    some_none : Some t ≡ None → ⊥
    some_none k = grind arith
past (t ∷ tree) (suc i) h = past tree i h

-- the mailbox of a number that no object has
pub no_slot : (inside old : ObjectRows) (r : Option TreeRow) (i : ℕ) → inside ≡ old → r ≡ slice_get inside.tree i → r ≡ None →
    ◌≡◌ {A = SlotId} (record { 0 = 0 }) (tree_row old i).slot
no_slot inside old r i same is none =
    ap (λ (t : TreeRow). t.slot) (sym (past inside.tree i (sym is ∙ none))) ∙ ap (λ (o : ObjectRows). (tree_row o i).slot) same

-- a change that no row of the control state shows
pub quiet_stand : (q : TreeRow → TreeRow) (o : ObjId) (old : ObjectRows) (rows : List Row) → ((t : TreeRow) (d : Detail) → row_of (q t) d ≡ row_of t d) →
    AreObjects old rows → AreObjects (with_tree (change q o old.tree) old) rows
quiet_stand q o old rows shown h = record {
  each = λ j. h.each j ∙ sym (read_kept (λ (t : TreeRow). row_of t (slice_index_or old.details j no_detail)) old.tree o.0 j (q (row_at old.tree o)) no_row (shown (row_at old.tree o) (slice_index_or old.details j no_detail)));
  many = h.many ∙ sym (length-set old.tree o.0 (q (row_at old.tree o)));
}

-- nobody tells what is no object
pub nobody_is_told : (inside old : ObjectRows) (r : Option TreeRow) (i : ℕ) → inside ≡ old → r ≡ slice_get inside.tree i → r ≡ None →
    false ≡ (is_alive (tree_row old i).stage && not (is_socket (tree_row old i).kind))
nobody_is_told inside old r i same is none =
    ap (λ (t : TreeRow). is_alive t.stage && not (is_socket t.kind)) (sym (past inside.tree i (sym is ∙ none)))
    ∙ ap (λ (o : ObjectRows). is_alive (tree_row o i).stage && not (is_socket (tree_row o i).kind)) same

-- the lists are none of the rows
pub lists_aside : (lists : List Belongings) (old : ObjectRows) (rows : List Row) → AreObjects old rows → AreObjects (with_lists lists old) rows
lists_aside lists old rows h = record { each = h.each; many = h.many }

pub nobody_may_tell : (inside old : ObjectRows) (r : Option TreeRow) (i : ℕ) → inside ≡ old → r ≡ slice_get inside.tree i → r ≡ None → false ≡ may_tell (kept_row old i)
nobody_may_tell inside old r i same is none =
    ap (λ (t : TreeRow). t.noted && (is_alive t.stage && not (is_socket t.kind))) (sym (past inside.tree i (sym is ∙ none)))
    ∙ ap (λ (o : ObjectRows). may_tell (kept_row o i)) same

no_stop : (a b : Bool) → false ≡ (a && (b && false))
no_stop true true = refl
no_stop true false = refl
no_stop false b = refl

pub nobody_may_stop : (inside old : ObjectRows) (r : Option TreeRow) (i : ℕ) → inside ≡ old → r ≡ slice_get inside.tree i → r ≡ None → false ≡ may_stop (kept_row old i)
nobody_may_stop inside old r i same is none =
    no_stop (is_unused (detail_at inside i).stop) (is_unused (tree_row inside i).request)
    ∙ ap (λ (t : TreeRow). is_unused (detail_at inside i).stop && (is_unused (tree_row inside i).request && (is_socket t.kind && is_alive t.stage)))
    (sym (past inside.tree i (sym is ∙ none)))
    ∙ ap (λ (o : ObjectRows). may_stop (kept_row o i)) same
