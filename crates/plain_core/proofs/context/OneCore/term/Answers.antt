use Rattle.plain_core.proofs.KeepLemmas.{keeps_all, keeps_lent}
use Rattle.plain_core.proofs.context.OneCore.term.Goals as goal

pub returns-clause-keeps : goal.returns-clause-keeps
returns-clause-keeps g c = keeps_all g.row.P-Waker.Denot g.P.Pipes.known c.args.caller c.args.self.now c.ask.new.self c.ask.ensures.pipes c.ask.ensures.wanted c.in_ok-reply.ensures.keeps

pub returns-in_err-reply-clause-keeps : goal.returns-in_err-reply-clause-keeps
returns-in_err-reply-clause-keeps g c = keeps_lent g.row.P-Waker.Denot g.P.Pipes.known c.args.self.now c.ask.new.self c.in_err-reply.ensures.err
