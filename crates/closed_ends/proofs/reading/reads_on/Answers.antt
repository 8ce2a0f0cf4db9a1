use Rattle.std.proofs.Common.{◌∙◌, sym, ap}
use Rattle.spec_control.specs.declared.end.EndState.{EndState}
use Rattle.spec_control.specs.Place.{At}
use Rattle.spec_run.specs.OpenSocket.{awaits_delimiter}
use Rattle.desk.specs.declared.given.Given.{Given}
use Rattle.closed_ends.specs.Has.{ends_of}
use Rattle.closed_ends.proofs.PlaceLemmas.{end_is}
use Rattle.closed_ends.proofs.ReadingLemmas.{state_found, state_none}
use Rattle.closed_ends.proofs.reading.reads_on.Goals as goal

pub returns-in-Some : goal.returns-in-Some
returns-in-Some g c =
    c.awaits.ensures
    ∙ ap (λ (x : Given _ _ _). awaits_delimiter (At x.state)) (end_is c.args.o.0 c.args.end c.args.closed.now.sockets.items c.in-Some.socket c.in-Some.place c.in-Some.ensures.found c.index.result.now c.index.ensures c.index-in-Some.result.now c.index-in-Some.ensures)
    ∙ ap (λ (t : EndState). awaits_delimiter (At t)) (sym (state_found c.args.o.0 c.args.end c.args.closed.now.sockets.items c.in-Some.socket c.in-Some.place c.in-Some.ensures.found))

pub returns-in-None : goal.returns-in-None
returns-in-None g c = ap (λ (t : EndState). awaits_delimiter (At t)) (sym (state_none c.args.end (ends_of c.args.closed.now.sockets.items c.args.o.0) c.in-None.ensures.none))
