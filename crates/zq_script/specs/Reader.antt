-- What the reader has done, when it has read some of the lines (own choice).
use Rattle.std.specs.Prelude.{◌++◌, List, Result, Ok, Err}
use Rattle.zq_script.specs.declared.fault.ScriptFault.{ScriptFault}
use Rattle.zq_script.specs.declared.statement.Statement.{Statement}

-- what other lines say, behind what was said before
unfoldable pub said_with : List Statement → Result (List Statement) ScriptFault
    → Result (List Statement) ScriptFault
said_with before (Ok later) = Ok (before ++ later)
said_with before (Err fault) = Err fault
