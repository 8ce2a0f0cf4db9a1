use Rattle.std.proofs.Common.{◌∙◌, ◌<◌, All, false, sym, ap, subst}
use Rattle.std.specs.Map.{keys_of}
use Rattle.pub_sub.specs.Followers.{places_of}
use Rattle.pub_sub.specs.Subscribing.{SubState, AreFollowed}
use Rattle.pub_sub.specs.declared.follower.Follower.{Follower}
use Rattle.pub_sub.proofs.SubscriberLemmas.{AreFollowed-with, keys_rows}
use Rattle.pub_sub.proofs.subscriber.Subscriber.attach.Goals as goal

pub invariant_of-self-in-Ok : goal.invariant_of-self-in-Ok
invariant_of-self-in-Ok c =
    subst (λ fs. AreFollowed c.self.inside.wanted fs false) (sym c.in-Ok.ensures.items)
    (AreFollowed-with c.self.inside.wanted c.self.inside.followers.items c.new.result c.self.inside.quiet c.self.invariant
    (subst (λ p. All (λ q. q < p) (places_of c.self.inside.followers.items)) (sym (ap (λ (f : Follower). f.place) c.new.ensures))
    (subst (All (λ q. q < c.args.place)) (ap (λ (s : SubState). keys_of s.followers) (sym c.self.view_is) ∙ keys_rows c.self.inside.followers.items) c.requires.last))
    (ap (λ (f : Follower). f.told.told) c.new.ensures) (ap (λ (f : Follower). f.told.lost) c.new.ensures))
