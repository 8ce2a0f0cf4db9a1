use Rattle.std.proofs.lemmas.Result.{IfOk-weaker, on_err_weaker}
use Rattle.line_socket.proofs.steps.LentSockOpenSteps.recv.Goals as goal

pub returns-clause-ok : goal.returns-clause-ok
returns-clause-ok g c = IfOk-weaker c.recv.result _ _ (λ answer h. record { acts = h.acts; skips = h.skips; does = h.does; tells = h.tells; led = h.led }) c.recv.ensures.ok

pub returns-clause-err : goal.returns-clause-err
returns-clause-err g c = on_err_weaker c.recv.result (λ h. record { acts = h.acts; led = h.led }) c.recv.ensures.err
