use Rattle.std.proofs.Common.{subst}
use Rattle.closed_ends.specs.declared.sockets.ClosedSockets.{ClosedSockets}
use Rattle.closed_ends.specs.Ending.{LooksOnce}
use Rattle.closed_ends.specs.Has.{holding_in}
use Rattle.reaper.proofs.reaper.look.Goals as goal

pub returns-clause-looked : goal.returns-clause-looked
returns-clause-looked g c =
    let x = c.look-found in
    let holds = λ (y : ClosedSockets _ _ _). holding_in g.P.Pipes.known.out_name g.P.Pipes.known.in_name y in
    subst (λ (p : g.row.P.Denot). LooksOnce g.P.Pipes.known p x.new.self.pipes c.args.o.0 c.args.end x.result (holds c.args.closed.now)) c.replace.ensures.value
    (subst (λ (y : ClosedSockets _ _ _). LooksOnce g.P.Pipes.known c.replace.result x.new.self.pipes c.args.o.0 c.args.end x.result (holds y)) c.replace-2.ensures.value x.ensures.looked)
