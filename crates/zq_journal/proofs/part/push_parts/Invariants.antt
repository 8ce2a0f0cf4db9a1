use Rattle.std.proofs.Common.{◌≡◌, ◌++◌, take}
use Rattle.spec_run.specs.PartText.{parts_text}
use Rattle.zq_journal.proofs.part.push_parts.Given as goal

abbrev pub invariant-loop-frame : goal.invariant-loop-frame
invariant-loop-frame l = l.out.items ≡ l.fn.out.items ++ parts_text (take l.frame-index l.frame-items)
