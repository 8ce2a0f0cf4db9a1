use Rattle.std.proofs.Common.{◌≡◌, ◌≤◌, length}
use Rattle.std.specs.Prelude.{map}
use Rattle.zq_script.specs.Known.{HasLearned}
use Rattle.zq_script.specs.Script.{statements_from}
use Rattle.zq_script.specs.Statement.{Learned, nothing_learned}
use Rattle.zq_script.proofs.ScriptLemmas.{GoesOn}
use Rattle.zq_script.proofs.read.read_statements.Given as goal

-- the other lines go on behind what was said, which is known
abbrev pub invariant-loop-line : goal.invariant-loop-line
invariant-loop-line l = record {
  goes_on : (learned : Learned) × HasLearned l.known learned
      × GoesOn l.lines l.line-index (statements_from 1 nothing_learned (map (λ x. x.now) l.lines)) l.statements.items learned;
  number : l.number ≡ l.line-index;
  few : l.known.count ≤ l.line-index;
  lines : length l.lines ≤ 10000;
}
