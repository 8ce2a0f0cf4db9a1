use Rattle.std.proofs.Common.{arith, sym, subst}
use Rattle.zq_base.specs.declared.ids.ObjId.{ObjId}
use Rattle.spec_control.specs.Control.{Control}
use Rattle.ctl_state.specs.Children.{stop_one, may_stop}
use Rattle.ctl_state.specs.Stands.{Stands}
use Rattle.ctl_state.proofs.ChildLemmas.{stop_all}
use Rattle.ctl_state.proofs.LoopLemmas.{goes_on, ends_on}
use Rattle.ctl_state.proofs.state.State.stop_sockets.Goals as goal

abbrev root : ObjId
root = record { 0 = 0 }

pub each-preserved : goal.each-preserved
each-preserved g c =
    goes_on may_stop stop_one c.args.self.now root c.each.self c.each.place c.each.invariant c.child-socket.result (omega (arith, c.children-many.ensures))
    c.child-socket.ensures c.stop.new.self c.stop.ensures.stands c.stop.ensures.shape c.stop.ensures.rest c.stop.ensures.only

pub returns-clause-stands : goal.returns-clause-stands
returns-clause-stands g c = λ k h.
    subst (λ (d : Control). Stands c.each.self d) (sym (stop_all c.args.self.now k h c.requires.sockets))
    (ends_on may_stop stop_one c.args.self.now root c.each.self c.each.place c.each.invariant (omega (arith, c.children-many.ensures)) k h)
