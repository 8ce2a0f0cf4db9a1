use Rattle.std.proofs.Common.{rules, arith, sym, ◌<◌, length}
use Rattle.std.proofs.lemmas.Grind.{common_steps}
use Rattle.zq_script.proofs.WordsLemmas.{some_piece, lines-empty_end, lines-some_end}
use Rattle.zq_script.proofs.words.lines.Goals as goal

pub returns-in_default : goal.returns-in_default
returns-in_default c = absurd (let some : 0 < length c.in_ok-lines.lines.items = some_piece c.args.octets.now _ c.in_ok-lines.ensures in grind (arith, common_steps))

pub returns-then-is_empty : goal.returns-then-is_empty
returns-then-is_empty c = lines-empty_end _ _ _ c.in-Some.last c.in_ok-lines.ensures c.in-Some.ensures.items (sym c.if-is_empty.ensures)

pub returns : goal.returns
returns c = rw c.in_ok-push.ensures.items (lines-some_end _ _ _ c.in-Some.last c.in_ok-lines.ensures c.in-Some.ensures.items (search rules))
