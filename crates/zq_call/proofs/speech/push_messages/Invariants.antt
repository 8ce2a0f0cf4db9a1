use Rattle.std.proofs.Common.{◌≡◌, ◌++◌, ℕ, List, length}
use Rattle.std.specs.Prelude.{flat_map}
use Rattle.zmtp_engine.specs.Conversation.{waiting}
use Rattle.zq_call.specs.HearText.{message_text}
use Rattle.zq_call.specs.Told.{Told, Tells, with_given}
use Rattle.zq_call.proofs.speech.push_messages.Given as goal

abbrev pub invariant-messages : goal.invariant-messages
invariant-messages l = (more : List (List (List ℕ))) × (l.out.items ≡ l.fn.out.items ++ flat_map message_text more)
    × ((t : Told) → Tells t l.fn.engine → Tells (with_given more t) l.engine)

abbrev pub decreases-messages : goal.decreases-messages
decreases-messages l = length (waiting l.engine)
