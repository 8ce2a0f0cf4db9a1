use Rattle.ctl_moves.proofs.AskLemmas.{AskedSoFar}
use Rattle.ctl_moves.proofs.asking.ask_ends.Given as goal

-- so many of the ends were asked
abbrev pub invariant-each : goal.invariant-each
invariant-each g l =
    AskedSoFar g.P.Pipes.known.out_name g.P.Pipes.known.in_name l.fn.state (g.H.Holder.holding l.fn.holder) l.at.0 l.reason l.delay l.state (g.H.Holder.holding l.holder) l.place
