use Rattle.std.proofs.Common.{◌∙◌, ◌++◌, ◌∷◌, [], filter, ap, arith}
use Rattle.pub_sub.specs.Followers.{places_of}
use Rattle.pub_sub.proofs.FollowerLemmas.{one_of, places-more, take_all}
use Rattle.pub_sub.proofs.subscriptions.open_followers.Goals as goal

pub push_open-requires : goal.push_open-requires
push_open-requires g c = record {
  there = one_of (g.E.Peers.here c.args.peers.now) c.args.followers.now c.loop-follower.follower-index c.follower-item.result (omega (arith, c.loop-follower-test.true)) c.follower-item.is c.requires.there;
}

pub loop-follower-preserved : goal.loop-follower-preserved
loop-follower-preserved g c =
    c.in_ok-push_open.ensures
    ∙ (λ j. c.loop-follower.invariant j ++ filter (g.E.Peers.writable c.args.peers.now) (c.follower-item.result.place ∷ []))
    ∙ places-more (g.E.Peers.writable c.args.peers.now) c.args.followers.now c.loop-follower.follower-index c.follower-item.result c.loop-follower-test.true c.follower-item.is

pub returns : goal.returns
returns g c =
    c.loop-follower.invariant
    ∙ ap (λ l. filter (g.E.Peers.writable c.args.peers.now) (places_of l)) (take_all c.args.followers.now c.loop-follower.follower-index (omega (arith, c.loop-follower-test.false)))
