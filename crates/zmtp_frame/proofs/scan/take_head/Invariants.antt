use Rattle.std.proofs.Common.{◌≡◌, ◌<◌, ◌++◌, take}
use Rattle.spec_zmtp.specs.FrameEncoding.{IsCutHead}
use Rattle.zmtp_frame.proofs.scan.take_head.Given as goal

abbrev pub invariant-loop-i : goal.invariant-loop-i
invariant-loop-i l = record {
  all : take l.have l.head ≡ take l.fn.have l.fn.head ++ take l.i l.piece;
  cut : IsCutHead (take l.have l.head);
  below : l.have < 9;
}
