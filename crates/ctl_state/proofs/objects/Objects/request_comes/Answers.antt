use Rattle.std.specs.Prelude.{◌≡◌, List, refl}
use Rattle.std.proofs.Common.{ap, sym, ◌∙◌, subst}
use Rattle.own_tree.specs.declared.row.Row.{Row as TreeRow}
use Rattle.ctl_state.specs.Objects.{ObjectRows, tree_row, with_tree}
use Rattle.own_tree.specs.Changes.{change, with_request}
use Rattle.ctl_state.proofs.LinkLemmas.{links_one, even_one, coming_there}
use Rattle.spec_control.specs.Row.{RequestComes}
use Rattle.spec_control.specs.declared.stage.Use.TheVariants.{OnItsWay, Used}
use Rattle.ctl_state.proofs.objects.Objects.request_comes.Goals as goal

pub on_request-requires : goal.on_request-requires
on_request-requires c = record { coming = subst (λ (o : ObjectRows). (tree_row o c.args.id.0).request ≡ OnItsWay) (sym c.self.view_is) c.requires.coming }

pub invariant_of-self : goal.invariant_of-self
invariant_of-self c = even_one (with_request Used) c.args.id _ _ c.on_request.ensures.next c.self.invariant

pub returns-clause-links : goal.returns-clause-links
returns-clause-links c =
    links_one RequestComes _ c.args.self.now _ c.self.view_is (with_request Used) c.args.id c.on_request.ensures.next (record { row = λ t d. refl; counts = λ t. refl; sent = λ t. refl })
    (coming_there c.args.self.now c.args.id.0 c.requires.coming)

pub returns-clause-next : goal.returns-clause-next
returns-clause-next c =
    ap (λ (ts : List TreeRow). let o : ObjectRows = record { tree = ts; details = c.self.inside.details.items; lists = c.self.inside.lists.items } in o) c.on_request.ensures.next
    ∙ ap (λ (o : ObjectRows). with_tree (change (with_request Used) c.args.id o.tree) o) c.self.view_is
