use Rattle.std.proofs.Common.{ℕ, ◌+◌, ap}
use Rattle.zq_journal.proofs.LivingLemmas.{living_more}
use Rattle.zq_journal.proofs.object.push_living.Goals as goal

pub loop-object-preserved : goal.loop-object-preserved
loop-object-preserved c = record {
  shown = living_more c.args.objects.now c.loop-object.object-index c.loop-object.number _ _ c.loop-object.out.items c.push_if_live.new.out.items c.loop-object-test.true c.loop-object.invariant.number c.in_ok-push_if_live.ensures c.loop-object.invariant.shown;
  number = ap (λ (n : ℕ). n + 1) c.loop-object.invariant.number;
}
