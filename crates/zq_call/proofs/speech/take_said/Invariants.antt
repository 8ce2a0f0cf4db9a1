use Rattle.std.proofs.Common.{length}
use Rattle.zmtp_engine.specs.Conversation.{unwritten}
use Rattle.zq_call.specs.Told.{Told, Tells, with_written}
use Rattle.zq_call.proofs.speech.take_said.Given as goal

abbrev pub invariant-pieces : goal.invariant-pieces
invariant-pieces l = (t : Told) → Tells t l.fn.engine → Tells (with_written l.said.items t) l.engine

abbrev pub decreases-pieces : goal.decreases-pieces
decreases-pieces l = length (unwritten l.engine)
