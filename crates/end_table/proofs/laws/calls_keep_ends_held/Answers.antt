use Rattle.end_table.proofs.HeldLemmas.{all_hold, all_rows}
use Rattle.end_table.proofs.CoreLemmas.{others_hold}
use Rattle.end_table.proofs.laws.calls_keep_ends_held.Goals as goal

pub returns : goal.returns
returns g c = record {
  held = λ steps old new. all_hold g.P.Pipes.known old steps new;
  there = λ steps old new places. all_rows g.P.Pipes.known old steps new places;
  others = λ steps old new rows. others_hold g.P.Pipes.known old steps new rows;
}
