use Rattle.std.proofs.Common.{◌≡◌}
use Rattle.zmtp_engine.specs.Output.{filled_run}
use Rattle.zmtp_engine.specs.WriterView.{pieces_behind, IsSending, IsOpen, HasRoom, togo}
use Rattle.zmtp_engine.proofs.sending.Sending.gather.Given as goal

abbrev pub invariant-pieces : goal.invariant-pieces
invariant-pieces l = record {
  sending : IsSending l.self;
  open_ : IsOpen l.self.next;
  room : HasRoom l.run;
  gathered : filled_run l.fn.run.items (pieces_behind l.fn.self) ≡ filled_run l.run.items (pieces_behind l.self);
}

abbrev pub decreases-pieces : goal.decreases-pieces
decreases-pieces l = togo l.self
