use Rattle.std.proofs.Common.{◌≡◌, ◌∙◌, ◌++◌, ℕ, List, remove, nat_eq, sym, ap, subst}
use Rattle.std.specs.List.{IsDistinct}
use Rattle.std.specs.Map.{keys_of}
use Rattle.pub_sub.specs.Places.{AreOthers}
use Rattle.msg_pipe.specs.Turns.{without_place}
use Rattle.pub_sub.specs.Followers.{rows_of, places_of}
use Rattle.pub_sub.specs.declared.follower.Follower.{Follower}
use Rattle.pub_sub.specs.Subscribing.{AreFollowed}
use Rattle.pub_sub.proofs.SubscriberLemmas.{AreFollowed-without, others_follow}
use Rattle.pub_sub.proofs.subscriber.Subscriber.leave.Goals as goal

pub invariant_of-self : goal.invariant_of-self
invariant_of-self c =
    subst (λ fs. AreFollowed c.self.inside.wanted fs c.self.inside.quiet) (sym c.remove-gone.ensures.items)
    (AreFollowed-without c.self.inside.wanted c.self.inside.followers.items c.in-Some.index c.self.inside.quiet c.self.invariant)

pub returns-in-Some-clause-others : goal.returns-in-Some-clause-others
returns-in-Some-clause-others c =
    let seen = c.as_slice.result.now in
    let items : c.remove-gone.new.self.items ≡ remove seen c.in-Some.index = c.remove-gone.ensures.items ∙ ap (λ l. remove l c.in-Some.index) (sym c.as_slice.ensures.value) in
    subst (λ (u : List ℕ × List Follower). AreOthers c.args.place (u.0 ++ keys_of (rows_of u.1))) (λ i. (sym c.remove.ensures i, sym items i))
    (subst (λ rows. AreOthers c.args.place (without_place c.args.place c.self.inside.ins ++ keys_of rows)) c.in-Some.ensures.1
    (others_follow c.args.place c.self.inside.ins seen (subst (λ l. IsDistinct nat_eq (places_of l)) (sym c.as_slice.ensures.value) c.self.invariant.apart)))

pub returns-in_default-clause-others : goal.returns-in_default-clause-others
returns-in_default-clause-others c =
    let seen = c.as_slice.result.now in
    subst (λ (u : List ℕ × List Follower). AreOthers c.args.place (u.0 ++ keys_of (rows_of u.1))) (λ i. (sym c.remove.ensures i, c.as_slice.ensures.value i))
    (subst (λ rows. AreOthers c.args.place (without_place c.args.place c.self.inside.ins ++ keys_of rows)) c.in_default.ensures
    (others_follow c.args.place c.self.inside.ins seen (subst (λ l. IsDistinct nat_eq (places_of l)) (sym c.as_slice.ensures.value) c.self.invariant.apart)))
