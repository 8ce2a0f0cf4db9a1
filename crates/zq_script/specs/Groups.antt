-- What is kept while statements are grouped by actors, from the last to the first (own choice).
use Rattle.std.specs.Prelude.{◌≡◌, List, reverse}
use Rattle.zq_script.specs.declared.group.Group.{Group}
use Rattle.zq_script.specs.declared.statement.Statement.{Statement}
use Rattle.zq_script.specs.Script.{actors_of, leading_lines}

-- these are the actors and the leading lines of the last statements, backwards
pub record Groups (group : Group) (statements : List Statement) : Type 0 where
  pub actors : reverse group.actors.items ≡ actors_of statements
  pub lines : reverse group.lines.items ≡ leading_lines statements
