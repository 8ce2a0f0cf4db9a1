use Rattle.std.proofs.Common.{sym, ◌∙◌}
use Rattle.spec_pattern.specs.declared.answers.RecvRefusal.TheVariants as recv
use Rattle.spec_run.specs.declared.answer.Answer.TheVariants as answer
use Rattle.spec_run.specs.SocketCall.{ReceivesOpen}
use Rattle.line_calls.proofs.CallLemmas.{refuses_stopped}
use Rattle.line_calls.proofs.messages.receives.Goals as goal

pub returns-then-is_stopped-clause-ok : goal.returns-then-is_stopped-clause-ok
returns-then-is_stopped-clause-ok g c = refuses_stopped g.M.OpenSteps.leads g.met.M.OpenSteps.led_none g.M.OpenSteps.as_open g.M.OpenSteps.moments (answer.NotReceived recv.Term) ReceivesOpen c.args.told.now.items c.args.socket.now (sym c.is_stopped.ensures ∙ c.if-is_stopped.true)
