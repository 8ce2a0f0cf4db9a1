use Rattle.std.proofs.lemmas.Result.{on_ok_weaker, on_err_weaker}
use Rattle.line_socket.proofs.steps.LentSockOpenSteps.pump_kind.Goals as goal

pub returns-clause-ok : goal.returns-clause-ok
returns-clause-ok g c = on_ok_weaker c.pump_kind.result (λ h. record { steps = h.steps; pattern = h.pattern; pumps = h.pumps; led = h.led; new_is = h.new_is }) c.pump_kind.ensures.ok

pub returns-clause-err : goal.returns-clause-err
returns-clause-err g c = on_err_weaker c.pump_kind.result (λ h. record { acts = h.acts; led = h.led }) c.pump_kind.ensures.err
