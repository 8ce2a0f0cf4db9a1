use Rattle.std.proofs.lemmas.Result.{IfOk-weaker, on_err_weaker}
use Rattle.line_socket.proofs.steps.LentSockOpenSteps.unsubscribe.Goals as goal

pub returns-clause-ok : goal.returns-clause-ok
returns-clause-ok g c = IfOk-weaker c.unsubscribe.result _ _ (λ answer h told. record { acts = (h told).acts; skips = (h told).skips; does = (h told).does; tells = (h told).tells; led = (h told).led }) c.unsubscribe.ensures.ok

pub returns-clause-err : goal.returns-clause-err
returns-clause-err g c = on_err_weaker c.unsubscribe.result (λ h. record { acts = h.acts; led = h.led }) c.unsubscribe.ensures.err
