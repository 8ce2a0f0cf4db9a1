-- What a call read or wrote of the objects, as they are seen.
use Rattle.std.specs.Prelude.{◌≡◌, ◌<◌, ◌≤◌, ◌⊎◌, ◌&&◌, ℕ, Bool, true, false, List, Option, Some, None, IfSome, IfNone, Result, Ok, Err, OnErr, length, slice_get, slice_index_or, slice_set, refl}
use Rattle.std.proofs.Common.{sym, ap, ◌∙◌, subst, inl, inr}
use Rattle.std.proofs.lemmas.Bool.{cases_lt}
use Rattle.std.proofs.lemmas.List.{get_or_read}
use Rattle.std.proofs.lemmas.Option.{get_or_from_slice_get, slice_get-get_or, slice_get_within}
use Rattle.spec_control.specs.Row.{is_socket}
use Rattle.spec_control.specs.Rows.{obj}
use Rattle.spec_control.specs.Stage.{is_alive, is_unused}
use Rattle.spec_control.specs.Control.{Control}
use Rattle.own_tree.specs.declared.row.Row.{Row as TreeRow}
use Rattle.own_tree.specs.Rows.{no_row}
use Rattle.ctl_state.specs.declared.belongings.Belongings.{Belongings}
use Rattle.ctl_state.specs.declared.detail.Detail.{Detail}
use Rattle.ctl_state.specs.declared.hold.Hold.{Hold}
use Rattle.ctl_state.specs.declared.state.State.{State}
use Rattle.ctl_state.specs.Children.{may_stop}
use Rattle.ctl_state.specs.Listed.{Listed}
use Rattle.ctl_state.specs.Lists.{belongings_at, with_holds}
use Rattle.ctl_state.specs.Objects.{ObjectRows, no_detail, row_of, tree_row, detail_at, kept_row, with_lists}
use Rattle.ctl_state.specs.Stands.{Stands}

-- the row that a call gave
pub row_is : (inside old : ObjectRows) (r : Option TreeRow) (t : TreeRow) (i : ℕ) → inside ≡ old → r ≡ slice_get inside.tree i → r ≡ Some t → t ≡ tree_row old i
row_is inside old r t i same is some = sym (get_or_from_slice_get inside.tree i t no_row (sym is ∙ some)) ∙ ap (λ (o : ObjectRows). tree_row o i) same

-- it has a place
pub row_there : (tree : List TreeRow) (r : Option TreeRow) (t : TreeRow) (i n : ℕ) → n ≡ length tree → r ≡ slice_get tree i → r ≡ Some t → i < n
row_there tree r t i n many is some = subst (λ (k : ℕ). i < k) (sym many) (slice_get_within tree i t (sym is ∙ some))

-- whether it may get a Stop, by what was read
pub may_stop_is : (inside old : ObjectRows) (r : Option TreeRow) (t : TreeRow) (d : Detail) (i : ℕ) → inside ≡ old → r ≡ slice_get inside.tree i → r ≡ Some t →
    length inside.details ≡ length inside.tree → d ≡ slice_index_or inside.details i d →
    (is_unused d.stop && (is_unused t.request && (is_socket t.kind && is_alive t.stage))) ≡ may_stop (kept_row old i)
may_stop_is inside old r t d i same is some even read =
    ap (λ (x : Detail). is_unused x.stop && (is_unused t.request && (is_socket t.kind && is_alive t.stage)))
    (get_or_read inside.details i d (row_there inside.tree r t i (length inside.details) even is some) read no_detail)
    ∙ ap (λ (x : TreeRow). is_unused (detail_at inside i).stop && (is_unused x.request && (is_socket x.kind && is_alive x.stage))) (row_is inside inside r t i refl is some)
    ∙ ap (λ (o : ObjectRows). may_stop (kept_row o i)) same

-- an answer that is the first of two where that is false, and else the second
pub and_no : (a b x : Bool) → x ≡ a → x ≡ false → x ≡ (a && b)
and_no a b x is off = off ∙ sym (ap (λ (v : Bool). v && b) (sym is ∙ off))

pub and_yes : (a b r x : Bool) → r ≡ a → r ≡ true → x ≡ b → x ≡ (a && b)
and_yes a b r x first on is = is ∙ sym (ap (λ (v : Bool). v && b) (sym first ∙ on))

pub and_last : (a b : Bool) → b ≡ false → (a && b) ≡ false
and_last true b e = e
and_last false b e = refl

-- the holds of an object, written as they were read
pub holds_written : (f : Listed Hold → Listed Hold) (i : ℕ) (inside old : ObjectRows) (m : Belongings) (now : Listed Hold) → inside ≡ old → m ≡ belongings_at inside.lists i → now ≡ f m.holds →
    with_lists (slice_set inside.lists i (record { ends = m.ends; holds = now })) inside ≡ with_lists (with_holds f i old.lists) old
holds_written f i inside old m now same read is =
    ap (λ (n : Listed Hold). with_lists (slice_set inside.lists i (record { ends = m.ends; holds = n })) inside) is
    ∙ ap (λ (b : Belongings). with_lists (slice_set inside.lists i (record { ends = b.ends; holds = f b.holds })) inside) read
    ∙ ap (λ (o : ObjectRows). with_lists (with_holds f i o.lists) o) same

-- the objects, part by part
pub parts_seen : (inside old : ObjectRows) (tree : List TreeRow) (details : List Detail) (lists : List Belongings) → inside ≡ old → tree ≡ inside.tree → details ≡ inside.details → lists ≡ inside.lists →
    ◌≡◌ {A = ObjectRows} (record { tree = tree; details = details; lists = lists }) old
parts_seen inside old tree details lists same trees rows belongings =
    ap (λ (ts : List TreeRow). let o : ObjectRows = record { tree = ts; details = details; lists = lists } in o) trees
    ∙ ap (λ (ds : List Detail). let o : ObjectRows = record { tree = inside.tree; details = ds; lists = lists } in o) rows
    ∙ ap (λ (ls : List Belongings). let o : ObjectRows = record { tree = inside.tree; details = inside.details; lists = ls } in o) belongings
    ∙ same

-- what is so whatever the answer is
pub so_on_err : {T E : Type 0} (P : Type 0) (r : Result T E) → P → OnErr r P
so_on_err P (Ok x) so = tt
so_on_err P (Err e) so = so

module _ {L : Type 0} where
  -- the row that a call gave, if it gave one
  pub row_shown : (s : State L) (i : ℕ) (r : Option TreeRow) → r ≡ slice_get s.objects.tree i →
      IfSome r (λ t. (c : Control) → Stands s c → obj c.rows i ≡ row_of t (detail_at s.objects i))
  row_shown s i None is = tt
  row_shown s i (Some t) is = λ c h. h.objects.each i ∙ ap (λ (x : TreeRow). row_of x (detail_at s.objects i)) (get_or_from_slice_get s.objects.tree i t no_row (sym is))

  pub row_missing : (s : State L) (i : ℕ) (r : Option TreeRow) → r ≡ slice_get s.objects.tree i → IfNone r ((c : Control) → Stands s c → length c.rows.objects ≤ i)
  row_missing s i (Some t) is = tt
  row_missing s i None is = λ c h. subst (λ (n : ℕ). n ≤ i) (sym h.objects.many) (out (cases_lt i (length s.objects.tree)))
    where
      out : (i < length s.objects.tree) ⊎ (length s.objects.tree ≤ i) → length s.objects.tree ≤ i
      out (inr past) = past
      out (inl within) = absurd (none (is ∙ slice_get-get_or s.objects.tree i no_row within))
        where
          none : None ≡ Some (slice_index_or s.objects.tree i no_row) → ⊥
          none e = cc
