use Rattle.std.proofs.Common.{sym, ◌∙◌, true≢false}
use Rattle.zq_world.specs.Seats.{socks_in}
use Rattle.zq_world.proofs.FetchLemmas.{none_has}
use Rattle.zq_world.proofs.seats.Seats.fetch.Goals as goal

pub returns-in-None-clause-ok : goal.returns-in-None-clause-ok
returns-in-None-clause-ok g c =
    absurd (true≢false (sym c.requires.has ∙ none_has c.args.slot (socks_in g.W.Sockets.as_open c.args.self.now) c.in-None.ensures.none))
