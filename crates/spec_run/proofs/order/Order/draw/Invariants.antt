use Rattle.std.proofs.Common.{◌≡◌, length}
use Rattle.spec_run.proofs.OrderLemmas.{GoesOn}
use Rattle.spec_run.proofs.order.Order.draw.Given as goal

abbrev pub invariant-workers : goal.invariant-workers
invariant-workers l = record {
  on : GoesOn l.initial.self.drawn l.initial.left.items l.self.drawn l.left.items l.order.items;
  seed : l.self.seed ≡ l.initial.self.seed;
}

abbrev pub decreases-workers : goal.decreases-workers
decreases-workers l = length l.left.items
