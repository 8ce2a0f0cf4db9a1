use Rattle.std.proofs.Common.{◌∙◌, sym, arith}
use Rattle.line_socket.proofs.RankLemmas.{readers_behind}
use Rattle.line_socket.proofs.ranks.next_reading.Goals as goal

pub returns-in-Some : goal.returns-in-Some
returns-in-Some g c =
    let found = c.in-Some.ensures in
    let first = found.0 in
    let few = c.ranked.ensures.few in
    (omega (arith, first, few), readers_behind c.args.places.now c.args.from c.place_behind.result c.place_behind.ensures ∙ found.1 ∙ sym c.ranked.ensures.same, c.ranked.ensures.reads)

pub returns-in-None : goal.returns-in-None
returns-in-None g c = readers_behind c.args.places.now c.args.from c.place_behind.result c.place_behind.ensures ∙ c.in-None.ensures
