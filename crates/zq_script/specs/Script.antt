-- What a script's octets ask: its actors with their lines, or its first fault (own choice).
use Rattle.std.specs.Prelude.{◌+◌, ℕ, Bool, true, List, [], ◌∷◌, ◌++◌, Option, option_to_list, Some, None, Result, Ok, Err, nat_lt, length, if◌then◌else◌}
use Rattle.spec_run.specs.Script.{Script}
use Rattle.spec_run.specs.declared.script.Line.{Line}
use Rattle.zq_script.specs.declared.fault.Cause.{Cause}
use Rattle.zq_script.specs.declared.fault.Cause.TheVariants.{TooLong}
use Rattle.zq_script.specs.declared.fault.ScriptFault.{ScriptFault}
use Rattle.zq_script.specs.declared.statement.Statement.{Statement}
use Rattle.zq_script.specs.declared.statement.Statement.TheVariants.{Actor, Socket, Closed, Other}
use Rattle.zq_script.specs.Answer.{◌>>=◌}
use Rattle.zq_script.specs.Grammar.{statement_of}
use Rattle.zq_script.specs.Statement.{Learned, nothing_learned, learned_behind}
use Rattle.zq_script.specs.Words.{lines_of, words_of, is_skipped}

-- the answer for the line of this number
unfoldable pub at_line : ℕ → Result Statement Cause → Result (Option Statement) ScriptFault
at_line number (Ok statement) = Ok (Some statement)
at_line number (Err cause) = Err (record { line = number; cause = cause })

-- what the line of this number says, if it isn't skipped
unfoldable pub line_statement : ℕ → Learned → List ℕ → Result (Option Statement) ScriptFault
line_statement number learned line =
    if is_skipped (words_of line) then Ok None
    else at_line number (statement_of number learned (words_of line))

-- what these lines say that are numbered from this number on, where so much is known
unfoldable pub statements_from : ℕ → Learned → List (List ℕ) → Result (List Statement) ScriptFault
statements_from number learned [] = Ok []
statements_from number learned (line ∷ lines) = do
  said ← line_statement number learned line
  later ← statements_from (number + 1) (learned_behind said learned) lines
  Ok (option_to_list said ++ later)

-- the lines before the next actor
unfoldable pub leading_lines : List Statement → List Line
leading_lines [] = []
leading_lines (Actor name ∷ statements) = []
leading_lines (Socket name line ∷ statements) = line ∷ leading_lines statements
leading_lines (Closed name line ∷ statements) = line ∷ leading_lines statements
leading_lines (Other line ∷ statements) = line ∷ leading_lines statements

-- the actors, each with the lines before the next one
unfoldable pub actors_of : List Statement → Script
actors_of [] = []
actors_of (Actor name ∷ statements) = record { name = name; lines = leading_lines statements } ∷ actors_of statements
actors_of (Socket name line ∷ statements) = actors_of statements
actors_of (Closed name line ∷ statements) = actors_of statements
actors_of (Other line ∷ statements) = actors_of statements

-- more than 1,048,576 octets or 10,000 lines
abbrev pub is_too_long : List ℕ → Bool
is_too_long octets =
    if nat_lt 1048576 (length octets) then true else nat_lt 10000 (length (lines_of octets))

-- the script of these octets, or its first fault
unfoldable pub script_of : List ℕ → Result Script ScriptFault
script_of octets =
    if is_too_long octets then Err (record { line = 0; cause = TooLong })
    else (do
      statements ← statements_from 1 nothing_learned (lines_of octets)
      Ok (actors_of statements))
