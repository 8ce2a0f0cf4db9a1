use Rattle.std.specs.Prelude.{◌≡◌, ◌≢◌, Some, List, refl}
use Rattle.std.proofs.Common.{ap, sym, ◌∙◌, subst}
use Rattle.spec_control.specs.declared.object.ObjState.TheVariants.{Ended}
use Rattle.spec_control.specs.declared.stage.Stage.TheVariants.{Cleared, Finished}
use Rattle.spec_control.specs.Row.{AckComes}
use Rattle.own_tree.specs.declared.row.Row.{Row as TreeRow}
use Rattle.own_tree.specs.Rows.{state_at}
use Rattle.own_tree.specs.Changes.{with_cleared, in_stage, one_less_owed}
use Rattle.ctl_state.specs.Objects.{ObjectRows, tree_row, with_tree}
use Rattle.ctl_state.proofs.LinkLemmas.{links_two, even_two, owned_there}
use Rattle.ctl_state.proofs.objects.Objects.ack_comes.Goals as goal

pub on_ack-requires-clause-unended : goal.on_ack-requires-clause-unended
on_ack-requires-clause-unended c = subst (λ (o : ObjectRows). state_at o.tree c.args.owner ≢ Ended) (sym c.self.view_is) c.requires.unended

pub on_ack-requires-clause-owned : goal.on_ack-requires-clause-owned
on_ack-requires-clause-owned c = subst (λ (o : ObjectRows). (tree_row o c.args.child.0).owner ≡ Some c.args.owner) (sym c.self.view_is) c.requires.owned

pub on_ack-requires-clause-finished : goal.on_ack-requires-clause-finished
on_ack-requires-clause-finished c = subst (λ (o : ObjectRows). (tree_row o c.args.child.0).stage ≡ Finished) (sym c.self.view_is) c.requires.finished

pub invariant_of-self : goal.invariant_of-self
invariant_of-self c = even_two (in_stage Cleared) one_less_owed c.args.owner c.args.child _ _ c.on_ack.ensures.next c.self.invariant

pub returns-clause-links : goal.returns-clause-links
returns-clause-links c =
    links_two AckComes _ c.args.self.now _ c.self.view_is (in_stage Cleared) one_less_owed c.args.owner c.args.child c.on_ack.ensures.next
    (record { row = λ t d. refl; counts = λ t. refl; sent = λ t. refl }) (record { row = λ t d. refl; counts = λ t. refl; sent = λ t. refl })
    (owned_there c.args.self.now c.args.child.0 c.args.owner c.requires.owned)

pub returns-clause-next : goal.returns-clause-next
returns-clause-next c =
    ap (λ (ts : List TreeRow). let o : ObjectRows = record { tree = ts; details = c.self.inside.details.items; lists = c.self.inside.lists.items } in o) c.on_ack.ensures.next
    ∙ ap (λ (o : ObjectRows). with_tree (with_cleared c.args.owner c.args.child o.tree) o) c.self.view_is
