use Rattle.std.specs.Prelude.{Bool, not, refl}
use Rattle.std.proofs.Common.{ap, sym, ◌∙◌, subst}
use Rattle.control_laws.proofs.ListLemmas.{left}
use Rattle.spec_control.specs.Row.{Row, RequestComes}
use Rattle.spec_control.specs.Stage.{is_coming}
use Rattle.spec_control.specs.declared.stage.Use.TheVariants.{Used}
use Rattle.spec_control.specs.Control.{link, tell_where}
use Rattle.own_tree.specs.Changes.{change, with_request}
use Rattle.ctl_state.specs.Stands.{Stands}
use Rattle.ctl_state.proofs.BareLemmas.{tells_on}
use Rattle.ctl_moves.proofs.BareLemmas.{told_child, told_room, tree_boxes, tree_tells, coming_is_so}
use Rattle.ctl_moves.proofs.bare.request.Goals as goal

pub request_comes-requires : goal.request_comes-requires
request_comes-requires g c =
    let w = c.requires.may in
    let met = c.needs.ensures w.control w.stands in
    record { coming = coming_is_so _ (ap (λ (o : Row). is_coming o.request) (sym (met.row c.args.child.0)) ∙ left _ _ w.is.comes.comes) }

pub tell_where-requires : goal.tell_where-requires
tell_where-requires g c =
    let w = c.requires.may in
    let stands = c.request_comes.ensures.stands w.control w.stands in
    let met = c.needs-2.ensures (link RequestComes c.args.child.0 w.control) stands in
    let boxes = tree_boxes c.args.state.now c.request_comes.new.self (change (with_request Used) c.args.child) c.request_comes.ensures.next in
    record {
      child = told_child c.args.state.now c.request_comes.new.self RequestComes c.args.at c.args.child w.control w.is stands met (λ o. refl);
      room = λ wanted may. told_room c.args.state.now c.request_comes.new.self RequestComes c.args.at c.args.child w.control w.is stands met (λ o. refl) boxes may;
    }

pub returns-clause-stands : goal.returns-clause-stands
returns-clause-stands g c = λ k h.
    subst (λ (b : Bool). Stands c.tell_where.new.self (tell_where (not b) c.args.child.0 (link RequestComes c.args.child.0 k))) (c.is_asked-asked.ensures k h)
    (c.tell_where.ensures.stands (link RequestComes c.args.child.0 k) (c.request_comes.ensures.stands k h))

pub returns-clause-only : goal.returns-clause-only
returns-clause-only g c =
    tells_on c.args.state.now c.request_comes.new.self c.tell_where.new.self (tree_tells c.args.state.now c.request_comes.new.self (change (with_request Used) c.args.child) c.request_comes.ensures.next) c.tell_where.ensures.only
