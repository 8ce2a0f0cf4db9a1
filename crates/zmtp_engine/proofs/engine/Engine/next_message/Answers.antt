use Rattle.std.proofs.Common.{◌∷◌, [], subst}
use Rattle.std.specs.Prelude.{IfSome}
use Rattle.zmtp_engine.specs.Conversation.{Past, Conversation, Follows, gave}
use Rattle.zmtp_engine.specs.EngineView.{conversation_of}
use Rattle.zmtp_engine.proofs.Calls.{next_past, next_some}
use Rattle.zmtp_engine.proofs.Conversations.{with_queue}
use Rattle.zmtp_engine.proofs.engine.Engine.next_message.Goals as goal

pub invariant_of-self : goal.invariant_of-self
invariant_of-self c =
    let k = next_past c.pop_front.result c.self.invariant.past c.pop_front.new.self.items (conversation_of c.self.inside) c.pop_front.ensures.items c.self.invariant.follows in
    record {
      room = c.self.invariant.room;
      writer = c.self.invariant.writer;
      past = k.0;
      follows = k.1;
      lends = λ e. let s = c.self.invariant.lends e in record { unwritten = s.unwritten; idle = s.idle };
    }

pub returns-clause-some : goal.returns-clause-some
returns-clause-some c =
    let old : Conversation = conversation_of c.self.inside in
    let new : Conversation = with_queue c.pop_front.new.self.items old in
    subst (λ (v : Conversation). IfSome c.pop_front.result (λ m. (p : Past) → Follows p v → Follows (gave (m ∷ []) p) new)) c.self.view_is (next_some c.pop_front.result c.pop_front.new.self.items old c.pop_front.ensures.items)
