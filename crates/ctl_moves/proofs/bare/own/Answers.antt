use Rattle.std.specs.Prelude.{Bool, not, refl}
use Rattle.std.proofs.Common.{ap, sym, ◌∙◌, subst}
use Rattle.control_laws.proofs.ListLemmas.{is_false}
use Rattle.spec_control.specs.Row.{Row, OwnComes}
use Rattle.spec_control.specs.Control.{link, tell_where}
use Rattle.own_tree.specs.Changes.{with_noted}
use Rattle.ctl_state.specs.Stands.{Stands}
use Rattle.ctl_state.proofs.BareLemmas.{tells_on}
use Rattle.ctl_moves.proofs.BareLemmas.{told_child, told_room, tree_boxes, tree_tells}
use Rattle.ctl_moves.proofs.bare.own.Goals as goal

pub own_comes-requires : goal.own_comes-requires
own_comes-requires g c =
    let w = c.requires.may in
    let met = c.needs.ensures w.control w.stands in
    record {
      unended = met.unended c.args.at w.is.lives;
      owned = met.owned c.args.child.0 c.args.at w.is.comes.owner;
      unnoted = is_false _ (ap (λ (o : Row). not o.noted) (sym (met.row c.args.child.0)) ∙ w.is.comes.comes);
    }

pub tell_where-requires : goal.tell_where-requires
tell_where-requires g c =
    let w = c.requires.may in
    let stands = c.own_comes.ensures.stands w.control w.stands in
    let met = c.needs-2.ensures (link OwnComes c.args.child.0 w.control) stands in
    let boxes = tree_boxes c.args.state.now c.own_comes.new.self (with_noted c.args.at c.args.child) c.own_comes.ensures.next in
    record {
      child = told_child c.args.state.now c.own_comes.new.self OwnComes c.args.at c.args.child w.control w.is stands met (λ o. refl);
      room = λ wanted may. told_room c.args.state.now c.own_comes.new.self OwnComes c.args.at c.args.child w.control w.is stands met (λ o. refl) boxes may;
    }

pub returns-clause-stands : goal.returns-clause-stands
returns-clause-stands g c = λ k h.
    subst (λ (b : Bool). Stands c.tell_where.new.self (tell_where b c.args.child.0 (link OwnComes c.args.child.0 k))) (c.is_asked-asked.ensures k h)
    (c.tell_where.ensures.stands (link OwnComes c.args.child.0 k) (c.own_comes.ensures.stands k h))

pub returns-clause-only : goal.returns-clause-only
returns-clause-only g c =
    tells_on c.args.state.now c.own_comes.new.self c.tell_where.new.self (tree_tells c.args.state.now c.own_comes.new.self (with_noted c.args.at c.args.child) c.own_comes.ensures.next) c.tell_where.ensures.only
