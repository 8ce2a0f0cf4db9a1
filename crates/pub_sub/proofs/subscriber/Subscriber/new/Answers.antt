use Rattle.std.proofs.Common.{[], true, sym, subst}
use Rattle.pub_sub.specs.Subscribing.{AreFollowed}
use Rattle.pub_sub.proofs.SubscriberLemmas.{AreFollowed-none}
use Rattle.pub_sub.proofs.subscriber.Subscriber.new.Goals as goal

pub invariant_of-result : goal.invariant_of-result
invariant_of-result c =
    subst (λ w. AreFollowed w c.new-3.result.items true) (sym c.new-2.ensures)
    (subst (λ fs. AreFollowed [] fs true) (sym c.new-3.ensures.items) AreFollowed-none)
