use Rattle.std.proofs.Common.{◌≡◌, ◌++◌, take}
use Rattle.spec_run.specs.Text.{others_text}
use Rattle.zq_journal.proofs.report.push_others.Given as goal

abbrev pub invariant-loop-pair : goal.invariant-loop-pair
invariant-loop-pair l = l.out.items ≡ l.fn.out.items ++ others_text (take l.pair-index l.pairs)
