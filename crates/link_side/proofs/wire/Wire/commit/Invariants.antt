use Rattle.std.proofs.Common.{◌≡◌, false, List, length}
use Rattle.zq_base.specs.Message.{Frames}
use Rattle.zq_base.specs.Ends.{PipeId}
use Rattle.msg_pipe.specs.Known.{IsThere}
use Rattle.zmtp_engine.specs.Conversation.{IsCurrent}
use Rattle.link_side.specs.Kept.{IsAlive, Acts, whole}
use Rattle.link_side.specs.Calls.{PutsRun, put_acts, is_some_put}
use Rattle.link_side.specs.WireView.{unfed, kept, IsSound}
use Rattle.link_side.proofs.wire.Wire.commit.Given as goal

abbrev pub invariant-messages : goal.invariant-messages
invariant-messages g l = record {
  sound : IsSound l.self;
  alive : IsAlive (kept l.self);
  current : IsCurrent l.self.engine;
  here : IsThere g.P.Pipes.known l.pipes (g.P.Pipes.known.out_name l.out);
  unsealed : (g.P.Pipes.known.writing l.pipes l.out).sealed ≡ false;
  unfed_is : unfed l.self ≡ unfed l.fn.self;
  run : (messages : List Frames) × PutsRun g.P.Pipes.known l.fn.pipes l.fn.out messages false l.pipes l.out
      × ((pipe : PipeId) → Acts (kept l.fn.self) (put_acts pipe messages false) (kept l.self)) × (l.some ≡ is_some_put messages);
}

abbrev pub decreases-messages : goal.decreases-messages
decreases-messages g l = length (whole (kept l.self))
