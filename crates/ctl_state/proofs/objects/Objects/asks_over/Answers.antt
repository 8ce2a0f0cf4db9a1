use Rattle.std.specs.Prelude.{◌≡◌, List, refl, ◌≢◌}
use Rattle.std.proofs.Common.{ap, sym, ◌∙◌, subst}
use Rattle.own_tree.specs.declared.row.Row.{Row as TreeRow}
use Rattle.ctl_state.specs.Objects.{ObjectRows, tree_row, with_tree}
use Rattle.own_tree.specs.Changes.{change, with_request}
use Rattle.ctl_state.proofs.LinkLemmas.{links_one, even_one, unended_there}
use Rattle.spec_control.specs.declared.object.ObjState.TheVariants.{Ended}
use Rattle.own_tree.specs.Rows.{state_at}
use Rattle.spec_control.specs.Row.{AsksOver}
use Rattle.spec_control.specs.declared.stage.Use.TheVariants.{Unused, OnItsWay}
use Rattle.ctl_state.proofs.objects.Objects.asks_over.Goals as goal

pub ask_over-requires-clause-unended : goal.ask_over-requires-clause-unended
ask_over-requires-clause-unended c = subst (λ (o : ObjectRows). state_at o.tree c.args.id ≢ Ended) (sym c.self.view_is) c.requires.unended

pub ask_over-requires-clause-unused : goal.ask_over-requires-clause-unused
ask_over-requires-clause-unused c = subst (λ (o : ObjectRows). (tree_row o c.args.id.0).request ≡ Unused) (sym c.self.view_is) c.requires.unused

pub invariant_of-self : goal.invariant_of-self
invariant_of-self c = even_one (with_request OnItsWay) c.args.id _ _ c.ask_over.ensures.next c.self.invariant

pub returns-clause-links : goal.returns-clause-links
returns-clause-links c =
    links_one AsksOver _ c.args.self.now _ c.self.view_is (with_request OnItsWay) c.args.id c.ask_over.ensures.next (record { row = λ t d. refl; counts = λ t. refl; sent = λ t. refl })
    (unended_there c.args.self.now c.args.id c.requires.unended)

pub returns-clause-next : goal.returns-clause-next
returns-clause-next c =
    ap (λ (ts : List TreeRow). let o : ObjectRows = record { tree = ts; details = c.self.inside.details.items; lists = c.self.inside.lists.items } in o) c.ask_over.ensures.next
    ∙ ap (λ (o : ObjectRows). with_tree (change (with_request OnItsWay) c.args.id o.tree) o) c.self.view_is
