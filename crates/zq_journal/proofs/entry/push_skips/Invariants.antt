use Rattle.std.proofs.Common.{◌≡◌, ◌++◌, take}
use Rattle.spec_run.specs.Text.{skips_text}
use Rattle.zq_journal.proofs.entry.push_skips.Given as goal

-- the dropped messages so far
abbrev pub invariant-loop-skip : goal.invariant-loop-skip
invariant-loop-skip l = l.out.items ≡ l.fn.out.items ++ skips_text (take l.skip-index l.skips)
