use Rattle.zmtp_mech.proofs.SayableLemmas.{ready_said, hello_said}
use Rattle.zmtp_mech.proofs.mech.Mech.first.Goals as goal
use Rattle.zmtp_mech.proofs.mech.Mech.first.Goals.{in-Null+in_ok-our_ready-in-Null, in-PlainClient+in_ok-our_hello-in-PlainClient, in-PlainServer}

pub returns-clause-sayable : goal.returns-clause-sayable
returns-clause-sayable c =
    elim c.match-self.branch [
      | in-Null+in_ok-our_ready-in-Null w ↦ rw w.result-is (ready_said c.self.inside.opts w.in_ok-our_ready-in-Null.field-0 c.self.invariant w.in_ok-our_ready-in-Null.ensures)
      | in-PlainClient+in_ok-our_hello-in-PlainClient w ↦ rw w.result-is (hello_said c.self.inside.opts w.in_ok-our_hello-in-PlainClient.field-0 c.self.invariant w.in_ok-our_hello-in-PlainClient.ensures)
      | in-PlainServer w ↦ rw w.result-is tt
    ]
