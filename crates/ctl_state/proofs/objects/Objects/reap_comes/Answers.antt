use Rattle.std.specs.Prelude.{◌≡◌, List, refl}
use Rattle.std.proofs.Common.{ap, sym, ◌∙◌, subst}
use Rattle.zq_base.specs.declared.ids.ObjId.{ObjId}
use Rattle.spec_control.specs.declared.stage.Stage.TheVariants.{Told}
use Rattle.spec_control.specs.declared.stage.Use.TheVariants.{OnItsWay, Used}
use Rattle.own_tree.specs.declared.row.Row.{Row as TreeRow}
use Rattle.own_tree.specs.Rows.{state_of}
use Rattle.own_tree.specs.Changes.{change, in_stage, one_more_owed, with_request, with_told}
use Rattle.ctl_state.specs.Objects.{ObjectRows, tree_row, with_tree}
use Rattle.ctl_state.proofs.LinkLemmas.{links_reap, even_one, even_two, owned_there, request_keeps}
use Rattle.ctl_state.proofs.objects.Objects.reap_comes.Goals as goal

abbrev root : ObjId
root = record { 0 = 0 }

pub on_request-requires : goal.on_request-requires
on_request-requires c = record { coming = subst (λ (o : ObjectRows). (tree_row o c.args.socket.0).request ≡ OnItsWay) (sym c.self.view_is) c.requires.coming }

pub tell-requires-clause-unended : goal.tell-requires-clause-unended
tell-requires-clause-unended c = λ e. c.requires.unended (sym (request_keeps (λ (t : TreeRow). state_of t.stage) _ _ c.on_request.new.self c.args.socket 0 c.self.view_is c.on_request.ensures.next (λ t. refl)) ∙ e)

pub tell-requires-clause-owned : goal.tell-requires-clause-owned
tell-requires-clause-owned c = request_keeps (λ (t : TreeRow). t.owner) _ _ c.on_request.new.self c.args.socket c.args.socket.0 c.self.view_is c.on_request.ensures.next (λ t. refl) ∙ c.requires.owned

pub tell-requires-clause-alive : goal.tell-requires-clause-alive
tell-requires-clause-alive c = request_keeps (λ (t : TreeRow). t.stage) _ _ c.on_request.new.self c.args.socket c.args.socket.0 c.self.view_is c.on_request.ensures.next (λ t. refl) ∙ c.requires.alive

pub invariant_of-self : goal.invariant_of-self
invariant_of-self c =
    let was : ObjectRows = record { tree = c.self.inside.tree; details = c.self.inside.details.items; lists = c.self.inside.lists.items } in
    even_two (in_stage Told) one_more_owed root c.args.socket (with_tree c.on_request.new.self was) c.tell.new.self c.tell.ensures.next
    (even_one (with_request Used) c.args.socket was c.on_request.new.self c.on_request.ensures.next c.self.invariant)

pub returns-clause-links : goal.returns-clause-links
returns-clause-links c =
    links_reap root c.args.socket _ c.args.self.now c.on_request.new.self c.tell.new.self c.self.view_is c.on_request.ensures.next c.tell.ensures.next
    (owned_there c.args.self.now c.args.socket.0 root c.requires.owned)

pub returns-clause-next : goal.returns-clause-next
returns-clause-next c =
    ap (λ (ts : List TreeRow). let o : ObjectRows = record { tree = ts; details = c.self.inside.details.items; lists = c.self.inside.lists.items } in o)
    (c.tell.ensures.next ∙ ap (λ (ts : List TreeRow). with_told root c.args.socket ts) c.on_request.ensures.next)
    ∙ ap (λ (o : ObjectRows). with_tree (with_told root c.args.socket (change (with_request Used) c.args.socket o.tree)) o) c.self.view_is
