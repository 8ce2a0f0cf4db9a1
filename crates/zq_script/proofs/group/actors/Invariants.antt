use Rattle.std.proofs.Common.{◌≡◌, ◌++◌, List, length}
use Rattle.zq_script.specs.declared.statement.Statement.{Statement}
use Rattle.zq_script.specs.Groups.{Groups}
use Rattle.zq_script.proofs.group.actors.Given as goal

-- the last statements are grouped
abbrev pub invariant-loop-statement : goal.invariant-loop-statement
invariant-loop-statement l =
    (rest : List Statement) × (l.fn.statements.items ≡ l.statements.items ++ rest) × Groups l.grouped rest

abbrev pub decreases-loop-statement : goal.decreases-loop-statement
decreases-loop-statement l = length l.statements.items
