use Rattle.std.proofs.Common.{ap, sym, ◌∙◌}
use Rattle.control_laws.proofs.ListLemmas.{left}
use Rattle.spec_control.specs.Row.{Row, AckComes}
use Rattle.spec_control.specs.Stage.{is_finished}
use Rattle.spec_control.specs.Control.{link}
use Rattle.own_tree.specs.Changes.{with_cleared}
use Rattle.ctl_state.proofs.BareLemmas.{tells_on}
use Rattle.ctl_moves.proofs.BareLemmas.{ack_unended, ack_has_room, finished_is, not_ended, tree_boxes, tree_tells}
use Rattle.ctl_moves.proofs.bare.acknowledgement.Goals as goal

pub ack_comes-requires : goal.ack_comes-requires
ack_comes-requires g c =
    let w = c.requires.may in
    let met = c.needs.ensures w.control w.stands in
    record {
      unended = met.unended c.args.at w.is.lives;
      owned = met.owned c.args.child.0 c.args.at w.is.comes.owner;
      finished = finished_is _ (ap (λ (o : Row). is_finished o.stage) (sym (met.row c.args.child.0)) ∙ left _ _ w.is.comes.comes);
    }

pub try_end-requires : goal.try_end-requires
try_end-requires g c =
    let w = c.requires.may in
    let stands = c.ack_comes.ensures.stands w.control w.stands in
    let met = c.needs-2.ensures (link AckComes c.args.child.0 w.control) stands in
    let boxes = tree_boxes c.args.state.now c.ack_comes.new.self (with_cleared c.args.at c.args.child) c.ack_comes.ensures.next in
    record {
      unended = ack_unended c.args.state.now c.ack_comes.new.self AckComes c.args.at c.args.child w.control w.is stands met
          (not_ended w.control c.args.child.0 c.args.at.0 (finished_is _ (left _ _ w.is.comes.comes)) w.is.lives);
      room = ack_has_room c.args.state.now c.ack_comes.new.self AckComes c.args.at c.args.child w.control w.is stands met boxes;
    }

pub returns-clause-stands : goal.returns-clause-stands
returns-clause-stands g c = λ k h. c.try_end.ensures.stands (link AckComes c.args.child.0 k) (c.ack_comes.ensures.stands k h)

pub returns-clause-only : goal.returns-clause-only
returns-clause-only g c =
    tells_on c.args.state.now c.ack_comes.new.self c.try_end.new.self (tree_tells c.args.state.now c.ack_comes.new.self (with_cleared c.args.at c.args.child) c.ack_comes.ensures.next) c.try_end.ensures.only

pub returns-clause-ended : goal.returns-clause-ended
returns-clause-ended g c = λ k h. c.try_end.ensures.answer (link AckComes c.args.child.0 k) (c.ack_comes.ensures.stands k h)
