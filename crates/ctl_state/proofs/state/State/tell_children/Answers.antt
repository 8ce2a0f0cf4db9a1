use Rattle.std.proofs.Common.{arith, sym, subst}
use Rattle.spec_control.specs.Control.{Control}
use Rattle.ctl_state.specs.Children.{tell_noted, may_tell}
use Rattle.ctl_state.specs.Stands.{Stands}
use Rattle.ctl_state.proofs.ChildLemmas.{tell_all}
use Rattle.ctl_state.proofs.LoopLemmas.{child_on, room_on, goes_on, ends_on}
use Rattle.ctl_state.proofs.state.State.tell_children.Goals as goal

pub tell_noted-requires : goal.tell_noted-requires
tell_noted-requires g c = record {
  child = child_on may_tell tell_noted c.args.self.now c.args.owner c.each.self c.each.place c.each.invariant c.child-child.result (omega (arith, c.children-many.ensures)) c.child-child.ensures c.requires.unended;
  room = room_on may_tell tell_noted c.args.self.now c.args.owner c.each.self c.each.place c.each.invariant c.child-child.result (omega (arith, c.children-many.ensures)) c.child-child.ensures;
}

pub each-preserved : goal.each-preserved
each-preserved g c =
    goes_on may_tell tell_noted c.args.self.now c.args.owner c.each.self c.each.place c.each.invariant c.child-child.result (omega (arith, c.children-many.ensures))
    c.child-child.ensures c.tell_noted.new.self c.tell_noted.ensures.stands c.tell_noted.ensures.shape c.tell_noted.ensures.rest c.tell_noted.ensures.only

pub returns-clause-stands : goal.returns-clause-stands
returns-clause-stands g c = λ k h.
    subst (λ (d : Control). Stands c.each.self d) (sym (tell_all c.args.self.now k h c.args.owner))
    (ends_on may_tell tell_noted c.args.self.now c.args.owner c.each.self c.each.place c.each.invariant (omega (arith, c.children-many.ensures)) k h)
