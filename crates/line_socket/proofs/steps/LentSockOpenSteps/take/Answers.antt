use Rattle.std.proofs.lemmas.Result.{IfOk-weaker, on_err_weaker}
use Rattle.line_socket.proofs.PartsLemmas.{takes_of_parts}
use Rattle.line_socket.specs.Owned.{parts, view_of}
use Rattle.line_socket.specs.Leads.{Leads}
use Rattle.line_socket.proofs.steps.LentSockOpenSteps.take.Goals as goal

pub returns-clause-ok : goal.returns-clause-ok
returns-clause-ok g c =
    IfOk-weaker c.take.result _ _ (λ found h. takes_of_parts (λ s. parts s.pipes (g.D.LentDesk.lent s.desk) s.socket.core s.since.items) (Leads g.P.Pipes.known) view_of found c.args.self.now c.take.new.lent h) c.take.ensures.ok

pub returns-clause-err : goal.returns-clause-err
returns-clause-err g c = on_err_weaker c.take.result (λ h. record { acts = h.acts; led = h.led }) c.take.ensures.err
