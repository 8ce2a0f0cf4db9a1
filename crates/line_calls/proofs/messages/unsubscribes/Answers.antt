use Rattle.std.proofs.Common.{ℕ, List, sym, ◌∙◌, subst}
use Rattle.std.specs.Prelude.{IfOk}
use Rattle.std.proofs.lemmas.Result.{IfOk-weaker}
use Rattle.spec_pattern.specs.PatternCalls.{Unsubscribe}
use Rattle.spec_pattern.specs.declared.answers.Skip.{Skip}
use Rattle.spec_run.specs.declared.answer.Answer.TheVariants as answer
use Rattle.spec_run.specs.SocketCall.{ChangesOpen, ChangesCall}
use Rattle.line_calls.specs.Steps.{CallsSo}
use Rattle.line_calls.proofs.CallLemmas.{refuses_stopped, does_open}
use Rattle.line_calls.proofs.messages.unsubscribes.Goals as goal

pub returns-then-is_stopped-clause-ok : goal.returns-then-is_stopped-clause-ok
returns-then-is_stopped-clause-ok g c = λ told. refuses_stopped g.M.OpenSteps.leads g.met.M.OpenSteps.led_none g.M.OpenSteps.as_open g.M.OpenSteps.moments answer.Term (ChangesOpen Unsubscribe c.args.topic.now) told c.args.socket.now (sym c.is_stopped.ensures ∙ c.if-is_stopped.true)

pub returns-clause-ok : goal.returns-clause-ok
returns-clause-ok g c =
    IfOk-weaker c.unsubscribe.result (λ said. (told : List Skip) → CallsSo g.M.OpenSteps.leads g.M.OpenSteps.as_open g.M.OpenSteps.moments (ChangesOpen Unsubscribe c.args.topic.now) said told told c.args.socket.now c.unsubscribe.new.self) (λ said. (told : List Skip) → CallsSo g.M.OpenSteps.leads g.M.OpenSteps.as_open g.M.OpenSteps.moments (ChangesCall Unsubscribe c.args.topic.now) said told told c.args.socket.now c.unsubscribe.new.self)
    (λ said s told. does_open g.M.OpenSteps.leads g.met.M.OpenSteps.led_none g.M.OpenSteps.as_open g.M.OpenSteps.moments answer.Term said (ChangesOpen Unsubscribe c.args.topic.now) told told c.args.socket.now c.unsubscribe.new.self (sym c.is_stopped.ensures ∙ c.if-is_stopped.false) (s told))
    (subst (λ (t : List ℕ). IfOk c.unsubscribe.result (λ said. (told : List Skip) → CallsSo g.M.OpenSteps.leads g.M.OpenSteps.as_open g.M.OpenSteps.moments (ChangesOpen Unsubscribe t) said told told c.args.socket.now c.unsubscribe.new.self)) c.as_slice.ensures.value c.unsubscribe.ensures.ok)
