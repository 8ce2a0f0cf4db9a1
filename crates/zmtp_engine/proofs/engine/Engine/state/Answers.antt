use Rattle.std.proofs.Common.{◌≡◌, Option, None, Some, sym, ap, ◌∙◌}
use Rattle.zq_base.specs.declared.options.Peer.{Peer}
use Rattle.spec_zmtp.specs.declared.cause.Refusal.{Refusal}
use Rattle.zmtp_engine.specs.Conversation.{Conversation}
use Rattle.zmtp_engine.specs.Listening.{refusal_now}
use Rattle.zmtp_engine.specs.Answers.{standing_by}
use Rattle.zmtp_engine.proofs.Calls.{standing_means}
use Rattle.zmtp_engine.proofs.engine.Engine.state.Goals as goal

pub returns-in-Some-clause-meaning : goal.returns-in-Some-clause-meaning
returns-in-Some-clause-meaning c = λ p d f now is.
    let r : refusal_now c.args.self.now.listening ≡ Some c.in-Some.refusal = sym (ap (λ (v : Conversation). refusal_now v.listening) c.self.view_is) ∙ sym c.refusal.ensures ∙ c.in-Some.is in
    sym (ap (λ (x : Option Refusal). standing_by x c.args.self.now.listening.hearing.peer) r) ∙ standing_means p c.args.self.now d f now is

pub returns-in-Some-peer-clause-meaning : goal.returns-in-Some-peer-clause-meaning
returns-in-Some-peer-clause-meaning c = λ p d f now is.
    let r : refusal_now c.args.self.now.listening ≡ None = sym (ap (λ (v : Conversation). refusal_now v.listening) c.self.view_is) ∙ sym c.refusal.ensures ∙ c.in-None.is in
    let q : c.args.self.now.listening.hearing.peer ≡ Some c.in-Some-peer.peer = sym (ap (λ (v : Conversation). v.listening.hearing.peer) c.self.view_is) ∙ c.in-Some-peer.is in
    sym (ap (λ (x : Option Refusal). standing_by x c.args.self.now.listening.hearing.peer) r ∙ ap (λ (x : Option Peer). standing_by None x) q) ∙ standing_means p c.args.self.now d f now is

pub returns-in-None-peer-clause-meaning : goal.returns-in-None-peer-clause-meaning
returns-in-None-peer-clause-meaning c = λ p d f now is.
    let r : refusal_now c.args.self.now.listening ≡ None = sym (ap (λ (v : Conversation). refusal_now v.listening) c.self.view_is) ∙ sym c.refusal.ensures ∙ c.in-None.is in
    let q : c.args.self.now.listening.hearing.peer ≡ None = sym (ap (λ (v : Conversation). v.listening.hearing.peer) c.self.view_is) ∙ c.in-None-peer.is in
    sym (ap (λ (x : Option Refusal). standing_by x c.args.self.now.listening.hearing.peer) r ∙ ap (λ (x : Option Peer). standing_by None x) q) ∙ standing_means p c.args.self.now d f now is
