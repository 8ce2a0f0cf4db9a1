use Rattle.std.specs.Prelude.{length}
use Rattle.ctl_moves.specs.Pairing.{MayJoinAll}
use Rattle.ctl_moves.proofs.JoinAllLemmas.{JoinsSoFar}
use Rattle.ctl_moves.proofs.pairing.join_all.Given as goal

-- some are made, and the others are left
abbrev pub invariant-first : goal.invariant-first
invariant-first g l =
    (w : MayJoinAll g.P.Pipes.known.out_name g.P.Pipes.known.in_name l.fn.state (g.H.Holder.holding l.fn.holder) l.socket l.fn.drawn.items) →
    JoinsSoFar g.P.Pipes.known.out_name g.P.Pipes.known.in_name l.at l.socket l.fn.drawn.items l.left.items l.fn.state l.state (g.H.Holder.holding l.fn.holder) (g.H.Holder.holding l.holder) w.control

abbrev pub decreases-first : goal.decreases-first
decreases-first g l = length l.left.items
