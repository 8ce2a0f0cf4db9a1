use Rattle.std.specs.Prelude.{◌≡◌, ◌≢◌, Some, false, List, refl}
use Rattle.std.proofs.Common.{ap, sym, ◌∙◌, subst}
use Rattle.spec_control.specs.declared.object.ObjState.TheVariants.{Ended}
use Rattle.spec_control.specs.Row.{OwnComes}
use Rattle.own_tree.specs.declared.row.Row.{Row as TreeRow}
use Rattle.own_tree.specs.Rows.{state_at}
use Rattle.own_tree.specs.Changes.{with_noted, as_noted, one_more_processed}
use Rattle.ctl_state.specs.Objects.{ObjectRows, tree_row, with_tree}
use Rattle.ctl_state.proofs.LinkLemmas.{links_two, even_two, owned_there}
use Rattle.ctl_state.proofs.objects.Objects.own_comes.Goals as goal

pub note_child-requires-clause-unended : goal.note_child-requires-clause-unended
note_child-requires-clause-unended c = subst (λ (o : ObjectRows). state_at o.tree c.args.owner ≢ Ended) (sym c.self.view_is) c.requires.unended

pub note_child-requires-clause-owned : goal.note_child-requires-clause-owned
note_child-requires-clause-owned c = subst (λ (o : ObjectRows). (tree_row o c.args.child.0).owner ≡ Some c.args.owner) (sym c.self.view_is) c.requires.owned

pub note_child-requires-clause-unnoted : goal.note_child-requires-clause-unnoted
note_child-requires-clause-unnoted c = subst (λ (o : ObjectRows). (tree_row o c.args.child.0).noted ≡ false) (sym c.self.view_is) c.requires.unnoted

pub invariant_of-self : goal.invariant_of-self
invariant_of-self c = even_two as_noted one_more_processed c.args.owner c.args.child _ _ c.note_child.ensures.next c.self.invariant

pub returns-clause-links : goal.returns-clause-links
returns-clause-links c =
    links_two OwnComes _ c.args.self.now _ c.self.view_is as_noted one_more_processed c.args.owner c.args.child c.note_child.ensures.next
    (record { row = λ t d. refl; counts = λ t. refl; sent = λ t. refl }) (record { row = λ t d. refl; counts = λ t. refl; sent = λ t. refl })
    (owned_there c.args.self.now c.args.child.0 c.args.owner c.requires.owned)

pub returns-clause-next : goal.returns-clause-next
returns-clause-next c =
    ap (λ (ts : List TreeRow). let o : ObjectRows = record { tree = ts; details = c.self.inside.details.items; lists = c.self.inside.lists.items } in o) c.note_child.ensures.next
    ∙ ap (λ (o : ObjectRows). with_tree (with_noted c.args.owner c.args.child o.tree) o) c.self.view_is
