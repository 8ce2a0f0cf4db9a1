use Rattle.std.proofs.Common.{◌-◌, ◌^◌, min, ap, ◌∙◌}
use Rattle.zmtp_engine.specs.Conversation.{Conversation}
use Rattle.zmtp_engine.specs.Listening.{rest_now}
use Rattle.zmtp_engine.proofs.Calls.{rest_means}
use Rattle.zmtp_engine.proofs.engine.Engine.rest.Goals as goal

pub returns : goal.returns
returns c = record {
  meaning = λ p d f now is n e. rest_means p c.args.self.now d c.rest.result n (c.rest.ensures ∙ ap (λ (v : Conversation). min (rest_now v.listening) (2 ^ 64 - 1)) c.self.view_is) f now is e;
}
