use Rattle.std.proofs.Common.{All, refl, ap, subst, sym, arith, get_or}
use Rattle.pub_sub.specs.Telling.{IsFollower}
use Rattle.pub_sub.proofs.FollowerLemmas.{IsNoting-more, whole}
use Rattle.pub_sub.proofs.followers.note_all.Goals as goal

pub loop-follower-preserved : goal.loop-follower-preserved
loop-follower-preserved c =
    IsNoting-more c.args.topic.now c.args.followers.now c.loop-follower.followers c.loop-follower.follower-index (get_or c.loop-follower.followers c.loop-follower.follower-index c.follower-item.result)
    (record { place = (get_or c.loop-follower.followers c.loop-follower.follower-index c.follower-item.result).place; told = c.note.new.self }) (omega (arith, c.loop-follower.auto.followers, c.loop-follower-test.true)) (ap (get_or c.loop-follower.followers c.loop-follower.follower-index) c.follower-item.is)
    refl c.note.ensures.told c.note.ensures.known c.loop-follower.invariant

pub returns-clause-follow : goal.returns-clause-follow
returns-clause-follow c = λ v w alike short all.
    subst (All (IsFollower w)) (sym (whole c.loop-follower.followers c.loop-follower.invariant.before c.loop-follower.invariant.behind c.loop-follower.follower-index
    c.loop-follower.invariant.now_is c.loop-follower.invariant.count_is (omega (arith, c.loop-follower.auto.followers, c.loop-follower-test.false))))
    (c.loop-follower.invariant.follow v w alike short all).0
