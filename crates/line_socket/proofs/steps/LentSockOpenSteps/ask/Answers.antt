use Rattle.std.proofs.lemmas.Result.{IfOk-weaker, on_err_weaker}
use Rattle.line_socket.proofs.RequestedLemmas.{naming_seen}
use Rattle.line_socket.specs.Owned.{parts, box_of}
use Rattle.line_socket.proofs.steps.LentSockOpenSteps.ask.Goals as goal

pub ask-requires-clause-asks : goal.ask-requires-clause-asks
ask-requires-clause-asks g c = let s = c.args.self.now in naming_seen (box_of (parts s.pipes (g.D.LentDesk.lent s.desk) s.socket.core s.since.items)) s.socket.core c.args.request c.requires.asks

pub returns-clause-ok : goal.returns-clause-ok
returns-clause-ok g c = IfOk-weaker c.ask.result _ _ (λ answer h told. record { acts = (h told).acts; skips = (h told).skips; does = (h told).does; tells = (h told).tells; led = (h told).led }) c.ask.ensures.ok

pub returns-clause-err : goal.returns-clause-err
returns-clause-err g c = on_err_weaker c.ask.result (λ h. record { acts = h.acts; led = h.led }) c.ask.ensures.err
