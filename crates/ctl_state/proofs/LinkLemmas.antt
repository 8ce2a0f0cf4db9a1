-- What happens between an object and its owner: one row of the tree changes, and perhaps a count of the owner.
use Rattle.std.specs.Prelude.{◌≡◌, ◌≢◌, ◌<◌, false, Option, Some, None, List, ℕ, length, slice_index_or, refl}
use Rattle.std.proofs.Common.{arith, sym, ap, ◌∙◌, subst}
use Rattle.std.proofs.lemmas.Bool.{false≢true}
use Rattle.std.proofs.lemmas.List.{length-set, get_or-set_same, get_or-set_other}
use Rattle.zq_base.specs.declared.ids.ObjId.{ObjId}
use Rattle.spec_control.specs.declared.object.ObjState.TheVariants.{Ended}
use Rattle.spec_control.specs.declared.stage.Stage.TheVariants.{Told}
use Rattle.spec_control.specs.declared.stage.Use.TheVariants.{Unused, OnItsWay, Used}
use Rattle.spec_control.specs.Row.{Row, LinkEvent, link_after, IsTold, RequestComes, ReapComes}
use Rattle.own_tree.specs.declared.row.Row.{Row as TreeRow}
use Rattle.own_tree.specs.Rows.{no_row, state_at, state_of}
use Rattle.own_tree.specs.Changes.{change, in_stage, one_more_owed, with_request, with_told}
use Rattle.ctl_state.specs.declared.detail.Detail.{Detail}
use Rattle.ctl_state.specs.Objects.{ObjectRows, row_of, tree_row, detail_at, kept_row, counts_of, with_tree, Becomes, Links}
use Rattle.ctl_state.proofs.ReadLemmas.{read_kept, placed_where}

-- a change of a row of the tree that shows as this change of the row of the control state
pub record Shows (k : Row → Row) (f : TreeRow → TreeRow) : Type 0 where
  pub row : (t : TreeRow) (d : Detail) → row_of (f t) d ≡ k (row_of t d)
  pub counts : (t : TreeRow) → counts_of (f t) ≡ counts_of t
  pub sent : (t : TreeRow) → (f t).sent ≡ t.sent

-- a change of a row of the tree that shows in nothing
pub record IsQuiet (g : TreeRow → TreeRow) : Type 0 where
  pub row : (t : TreeRow) (d : Detail) → row_of (g t) d ≡ row_of t d
  pub counts : (t : TreeRow) → counts_of (g t) ≡ counts_of t
  pub sent : (t : TreeRow) → (g t).sent ≡ t.sent

-- one row is changed
one_becomes : (k : Row → Row) (f : TreeRow → TreeRow) (id : ObjId) (old : ObjectRows) → Shows k f → id.0 < length old.tree →
    Becomes id.0 (k (kept_row old id.0)) old (with_tree (change f id old.tree) old)
one_becomes k f id old s there = record {
  there = there;
  here = ap (λ (t : TreeRow). row_of t (detail_at old id.0)) (get_or-set_same old.tree id.0 (f (tree_row old id.0)) no_row there)
      ∙ s.row (tree_row old id.0) (detail_at old id.0);
  elsewhere = λ j other. ap (λ (t : TreeRow). row_of t (detail_at old j)) (get_or-set_other old.tree id.0 j (f (tree_row old id.0)) no_row other);
  many = length-set old.tree id.0 (f (tree_row old id.0));
  counts = λ j. read_kept counts_of old.tree id.0 j (f (tree_row old id.0)) no_row (s.counts (tree_row old id.0));
  sent = λ j. read_kept (λ (t : TreeRow). t.sent) old.tree id.0 j (f (tree_row old id.0)) no_row (s.sent (tree_row old id.0));
  lists = refl;
}

-- a further change, which shows in nothing
quiet_becomes : (g : TreeRow → TreeRow) (o : ObjId) (i : ℕ) (row : Row) (old mid : ObjectRows) → IsQuiet g → Becomes i row old mid →
    Becomes i row old (with_tree (change g o mid.tree) mid)
quiet_becomes g o i row old mid q b = record {
  there = b.there;
  here = read_kept (λ (t : TreeRow). row_of t (detail_at mid i)) mid.tree o.0 i (g (tree_row mid o.0)) no_row (q.row (tree_row mid o.0) (detail_at mid i)) ∙ b.here;
  elsewhere = λ j other. read_kept (λ (t : TreeRow). row_of t (detail_at mid j)) mid.tree o.0 j (g (tree_row mid o.0)) no_row (q.row (tree_row mid o.0) (detail_at mid j)) ∙ b.elsewhere j other;
  many = length-set mid.tree o.0 (g (tree_row mid o.0)) ∙ b.many;
  counts = λ j. read_kept counts_of mid.tree o.0 j (g (tree_row mid o.0)) no_row (q.counts (tree_row mid o.0)) ∙ b.counts j;
  sent = λ j. read_kept (λ (t : TreeRow). t.sent) mid.tree o.0 j (g (tree_row mid o.0)) no_row (q.sent (tree_row mid o.0)) ∙ b.sent j;
  lists = b.lists;
}

-- the same object changes again
then_becomes : (i : ℕ) (row next : Row) (old mid new : ObjectRows) → Becomes i row old mid → Becomes i next mid new → Becomes i next old new
then_becomes i row next old mid new a b = record {
  there = a.there;
  here = b.here;
  elsewhere = λ j other. b.elsewhere j other ∙ a.elsewhere j other;
  many = b.many ∙ a.many;
  counts = λ j. b.counts j ∙ a.counts j;
  sent = λ j. b.sent j ∙ a.sent j;
  lists = b.lists ∙ a.lists;
}

-- the tree that a call gave, of the objects as they are seen
module _ (inside old : ObjectRows) (tree : List TreeRow) (same : inside ≡ old) where
  pub becomes_one : (k : Row → Row) (f : TreeRow → TreeRow) (id : ObjId) → tree ≡ change f id inside.tree → Shows k f → id.0 < length old.tree →
      Becomes id.0 (k (kept_row old id.0)) old (with_tree tree inside)
  becomes_one k f id is s there =
      subst (λ (o : ObjectRows). Becomes id.0 (k (kept_row o id.0)) o (with_tree tree inside)) same
      (subst (λ (ts : List TreeRow). Becomes id.0 (k (kept_row inside id.0)) inside (with_tree ts inside)) (sym is)
      (one_becomes k f id inside s (subst (λ (o : ObjectRows). id.0 < length o.tree) (sym same) there)))

module _ (event : LinkEvent) (inside old : ObjectRows) (tree : List TreeRow) (same : inside ≡ old) where
  pub links_one : (f : TreeRow → TreeRow) (id : ObjId) → tree ≡ change f id inside.tree → Shows (link_after event) f → id.0 < length old.tree → Links event id.0 old (with_tree tree inside)
  links_one f id is s there = becomes_one inside old tree same (link_after event) f id is s there

  pub links_two : (f g : TreeRow → TreeRow) (owner child : ObjId) → tree ≡ change g owner (change f child inside.tree) → Shows (link_after event) f → IsQuiet g → child.0 < length old.tree →
      Links event child.0 old (with_tree tree inside)
  links_two f g owner child is s q there =
      subst (λ (o : ObjectRows). Links event child.0 o (with_tree tree inside)) same
      (subst (λ (ts : List TreeRow). Links event child.0 inside (with_tree ts inside)) (sym is)
      (quiet_becomes g owner child.0 _ inside (with_tree (change f child inside.tree) inside) q
      (one_becomes (link_after event) f child inside s (subst (λ (o : ObjectRows). child.0 < length o.tree) (sym same) there))))

-- a socket's Reap comes, and the socket is told
pub links_reap : (root socket : ObjId) (inside old : ObjectRows) (asked tree : List TreeRow) → inside ≡ old → asked ≡ change (with_request Used) socket inside.tree →
    tree ≡ with_told root socket asked → socket.0 < length old.tree → Links ReapComes socket.0 old (with_tree tree inside)
links_reap root socket inside old asked tree same request told there =
    let first : Links RequestComes socket.0 old (with_tree asked inside) =
    links_one RequestComes inside old asked same (with_request Used) socket request (record { row = λ t d. refl; counts = λ t. refl; sent = λ t. refl }) there in
    then_becomes socket.0 _ _ old (with_tree asked inside) (with_tree tree inside) first
    (subst (λ (r : Row). Becomes socket.0 (link_after IsTold r) (with_tree asked inside) (with_tree tree inside)) first.here
    (links_two IsTold (with_tree asked inside) (with_tree asked inside) tree refl (in_stage Told) one_more_owed root socket told
    (record { row = λ t d. refl; counts = λ t. refl; sent = λ t. refl }) (record { row = λ t d. refl; counts = λ t. refl; sent = λ t. refl })
    (subst (λ (n : ℕ). socket.0 < n) (sym first.many) there)))

-- the lists go on with the tree
pub even_one : (f : TreeRow → TreeRow) (id : ObjId) (inside : ObjectRows) (tree : List TreeRow) → tree ≡ change f id inside.tree →
    (length inside.details ≡ length inside.tree) × (length inside.lists ≡ length inside.tree) → (length inside.details ≡ length tree) × (length inside.lists ≡ length tree)
even_one f id inside tree is h =
    let many : length tree ≡ length inside.tree = ap (λ (ts : List TreeRow). length ts) is ∙ length-set inside.tree id.0 (f (tree_row inside id.0)) in
    (h.0 ∙ sym many, h.1 ∙ sym many)

pub even_two : (f g : TreeRow → TreeRow) (owner child : ObjId) (inside : ObjectRows) (tree : List TreeRow) → tree ≡ change g owner (change f child inside.tree) →
    (length inside.details ≡ length inside.tree) × (length inside.lists ≡ length inside.tree) → (length inside.details ≡ length tree) × (length inside.lists ≡ length tree)
even_two f g owner child inside tree is h =
    even_one g owner (with_tree (change f child inside.tree) inside) tree is (even_one f child inside (change f child inside.tree) refl h)

-- whose row says what that of no object says is there
pub owned_there : (o : ObjectRows) (i : ℕ) (owner : ObjId) → (tree_row o i).owner ≡ Some owner → i < length o.tree
owned_there o i owner owned = placed_where (λ (t : TreeRow). t.owner) o.tree i no_row (λ e. none (sym owned ∙ e))
  where
    none : ◌≡◌ {A = Option ObjId} (Some owner) None → ⊥
    none e = grind arith

pub unplugged_there : (o : ObjectRows) (i : ℕ) → (tree_row o i).plugged ≡ false → i < length o.tree
unplugged_there o i unplugged = placed_where (λ (t : TreeRow). t.plugged) o.tree i no_row (λ e. false≢true (sym unplugged ∙ e))

pub unused_there : (o : ObjectRows) (i : ℕ) → (tree_row o i).request ≡ Unused → i < length o.tree
unused_there o i unused = placed_where (λ (t : TreeRow). t.request) o.tree i no_row (λ e. other (sym unused ∙ e))
  where
    other : Unused ≡ Used → ⊥
    other e = Prim.grind arith

pub coming_there : (o : ObjectRows) (i : ℕ) → (tree_row o i).request ≡ OnItsWay → i < length o.tree
coming_there o i coming = placed_where (λ (t : TreeRow). t.request) o.tree i no_row (λ e. other (sym coming ∙ e))
  where
    other : OnItsWay ≡ Used → ⊥
    other e = Prim.grind arith

-- what its asking to end leaves of the rows
pub request_keeps : {Y : Type 0} (g : TreeRow → Y) (inside old : ObjectRows) (asked : List TreeRow) (socket : ObjId) (j : ℕ) → inside ≡ old → asked ≡ change (with_request Used) socket inside.tree →
    ((t : TreeRow) → g (with_request Used t) ≡ g t) → g (slice_index_or asked j no_row) ≡ g (tree_row old j)
request_keeps g inside old asked socket j same is kept =
    ap (λ (ts : List TreeRow). g (slice_index_or ts j no_row)) is
    ∙ read_kept g inside.tree socket.0 j (with_request Used (tree_row inside socket.0)) no_row (kept (tree_row inside socket.0))
    ∙ ap (λ (o : ObjectRows). g (tree_row o j)) same

pub unended_there : (o : ObjectRows) (i : ObjId) → state_at o.tree i ≢ Ended → i.0 < length o.tree
unended_there o i unended = placed_where (λ (t : TreeRow). state_of t.stage) o.tree i.0 no_row unended
