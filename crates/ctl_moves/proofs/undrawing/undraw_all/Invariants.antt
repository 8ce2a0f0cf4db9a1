use Rattle.std.specs.Prelude.{length}
use Rattle.ctl_moves.specs.Batch.{drawn_ends}
use Rattle.ctl_moves.specs.Drawing.{AreTaken, WereTaken}
use Rattle.ctl_moves.proofs.undrawing.undraw_all.Given as goal

-- those that are left were taken, and no end was turned yet
abbrev pub invariant-last : goal.invariant-last
invariant-last g l = record {
  taken : (w : WereTaken l.fn.state (g.H.Holder.holding l.fn.holder) l.socket.0 l.fn.drawn.items) → AreTaken l.socket.0 l.left.items w.before l.state w.had (g.H.Holder.holding l.holder);
  calm : g.H.Holder.calm l.holder (drawn_ends l.left.items);
}

abbrev pub decreases-last : goal.decreases-last
decreases-last g l = length l.left.items
