use Rattle.std.specs.Prelude.{◌-◌, length, take}
use Rattle.ctl_moves.specs.Batch.{FitsMore, drawn_ends}
use Rattle.ctl_moves.specs.Drawing.{Draws, MayDraw}
use Rattle.ctl_moves.proofs.bind_drawing.draw_all.Given as goal

-- a pair was drawn with each of the first ones, there is room to note the others, and no end was turned yet
abbrev pub invariant-waiters : goal.invariant-waiters
invariant-waiters g l = record {
  draws : (w : MayDraw l.fn.state (g.H.Holder.holding l.fn.holder) l.socket l.waiters (length l.wakers)) →
      Draws g.P.Pipes.known.out_name g.P.Pipes.known.in_name w.control l.socket (take l.place l.waiters) l.batch.drawn.items l.batch.notes l.fn.state l.state (g.H.Holder.holding l.fn.holder) (g.H.Holder.holding l.holder);
  room : FitsMore (length l.waiters - l.place) l.batch;
  calm : g.H.Holder.calm l.holder (drawn_ends l.batch.drawn.items);
}
