use Rattle.std.proofs.Common.{arith, ◌∙◌, sym, ap}
use Rattle.end_table.proofs.PlaceLemmas.{found_first}
use Rattle.closed_ends.specs.Has.{is_of}
use Rattle.closed_ends.proofs.ChangeLemmas.{one_is}
use Rattle.closed_ends.proofs.sockets.find_end.Goals as goal

pub returns-then-is_of : goal.returns-then-is_of
returns-then-is_of g c =
    let few = c.if-guess-len.true in
    let many = c.len.ensures in
    let are = c.args.ends.now.ok.0 in
    sym (found_first (is_of c.args.end) c.args.ends.now.items c.guessed-guess.result c.index.result.now (one_is c.args.end c.args.ends.now.items c.requires.apart)
    (omega (arith, few, many, are)) (ap (is_of c.args.end) (sym c.index.ensures) ∙ sym c.is_of.ensures ∙ c.if-is_of.true))
