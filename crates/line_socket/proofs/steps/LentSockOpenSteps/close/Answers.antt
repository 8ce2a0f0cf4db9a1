use Rattle.std.proofs.lemmas.Result.{on_ok_weaker, on_err_weaker}
use Rattle.line_socket.proofs.steps.LentSockOpenSteps.close.Goals as goal

pub returns-clause-ok : goal.returns-clause-ok
returns-clause-ok g c = on_ok_weaker c.close_lent.result (λ h. record { closed = h.closed; request = h.request; led = h.led }) c.close_lent.ensures.ok

pub returns-clause-err : goal.returns-clause-err
returns-clause-err g c = on_err_weaker c.close_lent.result (λ h. record { acts = h.acts; led = h.led }) c.close_lent.ensures.err
