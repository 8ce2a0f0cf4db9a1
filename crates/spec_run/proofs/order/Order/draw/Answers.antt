use Rattle.std.proofs.Common.{rules, ℕ, List, [], ◌∷◌, ◌++◌, refl, sym, subst, ◌∙◌}
use Rattle.std.specs.List.{remove}
use Rattle.spec_run.proofs.OrderLemmas.{GoesOn, goes_on_first, goes_on_more, goes_on_last}
use Rattle.spec_run.proofs.order.Order.draw.Goals as goal

pub workers-init : goal.workers-init
workers-init c = record {
  on = subst (GoesOn c.args.self.now.drawn c.args.left.items c.args.self.now.drawn c.args.left.items) (sym c.in_ok-order.ensures.items) (goes_on_first c.args.self.now.drawn c.args.left.items);
  seed = refl;
}

pub workers-preserved : goal.workers-preserved
workers-preserved c = record {
  on = subst (λ (l : List ℕ). GoesOn c.args.self.now.drawn c.args.left.items c.choose-place.new.self.drawn c.remove.new.self.items l) (sym c.in_ok-push.ensures.items)
      (subst (λ (l : List ℕ). GoesOn c.args.self.now.drawn c.args.left.items c.choose-place.new.self.drawn l (c.workers.order.items ++ c.remove.result ∷ [])) (sym c.remove.ensures.items)
      (subst (λ x. GoesOn c.args.self.now.drawn c.args.left.items x (remove c.workers.left.items c.choose-place.result) (c.workers.order.items ++ c.remove.result ∷ [])) (sym c.choose-place.ensures.drawn)
      (goes_on_more c.args.self.now.drawn c.args.left.items c.workers.self.drawn c.workers.left.items c.workers.order.items c.choose-place.result c.remove.result
      c.workers.invariant.on (search rules) (search rules) c.remove.ensures.value)));
  seed = c.choose-place.ensures.seed ∙ c.workers.invariant.seed;
}

pub returns-clause-order : goal.returns-clause-order
returns-clause-order c = goes_on_last c.args.self.now.drawn c.args.left.items c.workers.self.drawn c.workers.left.items c.workers.order.items c.workers.invariant.on (search rules)
