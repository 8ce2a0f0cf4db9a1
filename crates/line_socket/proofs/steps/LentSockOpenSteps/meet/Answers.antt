use Rattle.line_socket.proofs.steps.LentSockOpenSteps.meet.Goals as goal

pub returns-clause-meets : goal.returns-clause-meets
returns-clause-meets g c =
    let h = c.meet.ensures.meets in
    record { met = h.met; item = h.item; passes = record { led = h.passes.led; goes = h.passes.goes } }
