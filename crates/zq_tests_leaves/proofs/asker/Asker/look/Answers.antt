use Rattle.spec_control.specs.declared.entry.SeenEmpty.TheVariants.{Nothing}
use Rattle.sock_calls.specs.Calls.{holding_of}
use Rattle.plain_desk.proofs.GrowLemmas.{sees_grow}
use Rattle.zq_tests_leaves.proofs.LaterLemmas.{none_still, same_caller}
use Rattle.zq_tests_leaves.proofs.asker.Asker.look.Goals as goal

pub invariant_of-self : goal.invariant_of-self
invariant_of-self g c =
    let a = c.self.inside in
    let before = c.self.invariant in
    let call = c.look_around in
    let grows = sees_grow a.desk call.new.self Nothing call.result call.ensures.sees in (
      before.0,
      (call.ensures.keeps (holding_of g.C.Joins.kind a.socket.core) before.1).has,
      same_caller a.caller a.desk call.new.self grows before.2,
      none_still a.caller a.desk call.new.self grows before.2 before.3,
    )
