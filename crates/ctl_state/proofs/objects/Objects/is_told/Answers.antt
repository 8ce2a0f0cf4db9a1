use Rattle.std.specs.Prelude.{◌≡◌, ◌≢◌, Some, List, refl}
use Rattle.std.proofs.Common.{ap, sym, ◌∙◌, subst}
use Rattle.spec_control.specs.declared.object.ObjState.TheVariants.{Ended}
use Rattle.spec_control.specs.declared.stage.Stage.TheVariants.{Told, Alive}
use Rattle.spec_control.specs.Row.{IsTold}
use Rattle.own_tree.specs.declared.row.Row.{Row as TreeRow}
use Rattle.own_tree.specs.Rows.{state_at, tree_of}
use Rattle.own_tree.specs.Changes.{with_told, in_stage, one_more_owed}
use Rattle.ctl_state.specs.Objects.{ObjectRows, tree_row, with_tree}
use Rattle.ctl_state.proofs.LinkLemmas.{links_two, even_two, owned_there}
use Rattle.ctl_state.proofs.objects.Objects.is_told.Goals as goal

pub tell-requires-clause-unended : goal.tell-requires-clause-unended
tell-requires-clause-unended c = subst (λ (o : ObjectRows). state_at o.tree c.args.owner ≢ Ended) (sym c.self.view_is) c.requires.unended

pub tell-requires-clause-owned : goal.tell-requires-clause-owned
tell-requires-clause-owned c = subst (λ (o : ObjectRows). (tree_row o c.args.child.0).owner ≡ Some c.args.owner) (sym c.self.view_is) c.requires.owned

pub tell-requires-clause-alive : goal.tell-requires-clause-alive
tell-requires-clause-alive c = subst (λ (o : ObjectRows). (tree_row o c.args.child.0).stage ≡ Alive) (sym c.self.view_is) c.requires.alive

pub invariant_of-self : goal.invariant_of-self
invariant_of-self c = even_two (in_stage Told) one_more_owed c.args.owner c.args.child _ _ c.tell.ensures.next c.self.invariant

pub returns-clause-links : goal.returns-clause-links
returns-clause-links c =
    links_two IsTold _ c.args.self.now _ c.self.view_is (in_stage Told) one_more_owed c.args.owner c.args.child c.tell.ensures.next
    (record { row = λ t d. refl; counts = λ t. refl; sent = λ t. refl }) (record { row = λ t d. refl; counts = λ t. refl; sent = λ t. refl })
    (owned_there c.args.self.now c.args.child.0 c.args.owner c.requires.owned)

pub returns-clause-shape : goal.returns-clause-shape
returns-clause-shape c = c.tell.ensures.moves ∙ ap (λ (o : ObjectRows). tree_of o.tree) c.self.view_is

pub returns-clause-next : goal.returns-clause-next
returns-clause-next c =
    ap (λ (ts : List TreeRow). let o : ObjectRows = record { tree = ts; details = c.self.inside.details.items; lists = c.self.inside.lists.items } in o) c.tell.ensures.next
    ∙ ap (λ (o : ObjectRows). with_tree (with_told c.args.owner c.args.child o.tree) o) c.self.view_is
