use Rattle.std.specs.Prelude.{◌≡◌, List, refl, ◌≢◌, false}
use Rattle.std.proofs.Common.{ap, sym, ◌∙◌, subst}
use Rattle.own_tree.specs.declared.row.Row.{Row as TreeRow}
use Rattle.ctl_state.specs.Objects.{ObjectRows, tree_row, with_tree}
use Rattle.own_tree.specs.Changes.{change, as_plugged}
use Rattle.ctl_state.proofs.LinkLemmas.{links_one, even_one, unended_there}
use Rattle.spec_control.specs.declared.object.ObjState.TheVariants.{Ended}
use Rattle.own_tree.specs.Rows.{state_at}
use Rattle.spec_control.specs.Row.{PlugComes}
use Rattle.ctl_state.proofs.objects.Objects.plug_comes.Goals as goal

pub on_plug-requires-clause-unended : goal.on_plug-requires-clause-unended
on_plug-requires-clause-unended c = subst (λ (o : ObjectRows). state_at o.tree c.args.id ≢ Ended) (sym c.self.view_is) c.requires.unended

pub on_plug-requires-clause-unplugged : goal.on_plug-requires-clause-unplugged
on_plug-requires-clause-unplugged c = subst (λ (o : ObjectRows). (tree_row o c.args.id.0).plugged ≡ false) (sym c.self.view_is) c.requires.unplugged

pub invariant_of-self : goal.invariant_of-self
invariant_of-self c = even_one as_plugged c.args.id _ _ c.on_plug.ensures.next c.self.invariant

pub returns-clause-links : goal.returns-clause-links
returns-clause-links c =
    links_one PlugComes _ c.args.self.now _ c.self.view_is as_plugged c.args.id c.on_plug.ensures.next (record { row = λ t d. refl; counts = λ t. refl; sent = λ t. refl })
    (unended_there c.args.self.now c.args.id c.requires.unended)

pub returns-clause-next : goal.returns-clause-next
returns-clause-next c =
    ap (λ (ts : List TreeRow). let o : ObjectRows = record { tree = ts; details = c.self.inside.details.items; lists = c.self.inside.lists.items } in o) c.on_plug.ensures.next
    ∙ ap (λ (o : ObjectRows). with_tree (change as_plugged c.args.id o.tree) o) c.self.view_is
