use Rattle.std.proofs.Common.{◌≡◌, List, length}
use Rattle.zq_base.specs.Message.{Frames}
use Rattle.zq_base.specs.Ends.{PipeId}
use Rattle.zmtp_engine.specs.Conversation.{IsCurrent}
use Rattle.spec_link.specs.Parts.{puts}
use Rattle.link_side.specs.Kept.{Acts, whole}
use Rattle.link_side.specs.WireView.{unfed, kept, IsSound}
use Rattle.link_side.proofs.wire.Wire.drop_whole.Given as goal

abbrev pub invariant-messages : goal.invariant-messages
invariant-messages l = record {
  sound : IsSound l.self;
  current : IsCurrent l.self.engine;
  unfed_is : unfed l.self ≡ unfed l.fn.self;
  run : (messages : List Frames) × ((pipe : PipeId) → Acts (kept l.fn.self) (puts pipe messages) (kept l.self));
}

abbrev pub decreases-messages : goal.decreases-messages
decreases-messages l = length (whole (kept l.self))
