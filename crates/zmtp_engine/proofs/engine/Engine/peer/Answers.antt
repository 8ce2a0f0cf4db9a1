use Rattle.std.proofs.Common.{ap, ◌∙◌}
use Rattle.zmtp_engine.specs.Conversation.{Conversation}
use Rattle.zmtp_engine.proofs.Calls.{peer_means}
use Rattle.zmtp_engine.proofs.engine.Engine.peer.Goals as goal

pub returns-clause-meaning : goal.returns-clause-meaning
returns-clause-meaning c = λ p d f now is.
    c.as_ref.ensures.value ∙ ap (λ (v : Conversation). v.listening.hearing.peer) c.self.view_is ∙ peer_means p c.args.self.now d f now is
