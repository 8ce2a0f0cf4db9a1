use Rattle.std.proofs.Common.{List, sym, ◌∙◌}
use Rattle.std.proofs.lemmas.Result.{IfOk-weaker}
use Rattle.spec_pattern.specs.declared.answers.Skip.{Skip}
use Rattle.spec_pattern.specs.declared.answers.SendRefusal.TheVariants as send
use Rattle.spec_run.specs.declared.answer.Answer.TheVariants as answer
use Rattle.spec_run.specs.SocketCall.{SendsOpen, SendsCall}
use Rattle.line_calls.specs.Steps.{CallsSo}
use Rattle.line_calls.proofs.CallLemmas.{refuses_stopped, does_open}
use Rattle.line_calls.proofs.messages.sends.Goals as goal

pub returns-then-is_stopped-clause-ok : goal.returns-then-is_stopped-clause-ok
returns-then-is_stopped-clause-ok g c = λ told. refuses_stopped g.M.OpenSteps.leads g.met.M.OpenSteps.led_none g.M.OpenSteps.as_open g.M.OpenSteps.moments (answer.NotSent send.Term) (SendsOpen c.args.message.now) told c.args.socket.now (sym c.is_stopped.ensures ∙ c.if-is_stopped.true)

pub returns-clause-ok : goal.returns-clause-ok
returns-clause-ok g c =
    IfOk-weaker c.send.result (λ said. (told : List Skip) → CallsSo g.M.OpenSteps.leads g.M.OpenSteps.as_open g.M.OpenSteps.moments (SendsOpen c.args.message.now) said told told c.args.socket.now c.send.new.self) (λ said. (told : List Skip) → CallsSo g.M.OpenSteps.leads g.M.OpenSteps.as_open g.M.OpenSteps.moments (SendsCall c.args.message.now) said told told c.args.socket.now c.send.new.self)
    (λ said s told. does_open g.M.OpenSteps.leads g.met.M.OpenSteps.led_none g.M.OpenSteps.as_open g.M.OpenSteps.moments (answer.NotSent send.Term) said (SendsOpen c.args.message.now) told told c.args.socket.now c.send.new.self (sym c.is_stopped.ensures ∙ c.if-is_stopped.false) (s told))
    c.send.ensures.ok
