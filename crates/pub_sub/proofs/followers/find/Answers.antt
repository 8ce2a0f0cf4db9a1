use Rattle.std.proofs.Common.{◌≡◌, ◌∙◌, false, All, nat_eq, ap, subst, arith, get_or}
use Rattle.std.proofs.lemmas.List.Elements.{All-more}
use Rattle.std.specs.Cmp.{nat_eq_equiv}
use Rattle.pub_sub.specs.declared.follower.Follower.{Follower}
use Rattle.pub_sub.proofs.FollowerLemmas.{row_goes, no_row, take_all}
use Rattle.pub_sub.proofs.followers.find.Goals as goal

pub returns-then-followers-index : goal.returns-then-followers-index
returns-then-followers-index c = (
  c.loop-index-test.true,
  row_goes c.args.place c.args.followers.now c.loop-index.index (get_or c.args.followers.now c.loop-index.index c.index-followers-index.result) c.loop-index-test.true (ap (get_or c.args.followers.now c.loop-index.index) c.index-followers-index.is) c.loop-index.invariant
      (ap (nat_eq c.args.place) c.if-followers-index.true ∙ nat_eq_equiv.refl c.args.place),
)

pub loop-index-preserved : goal.loop-index-preserved
loop-index-preserved c =
    All-more (λ (f : Follower). nat_eq c.args.place f.place ≡ false) c.args.followers.now c.loop-index.index c.index-followers-index.result c.loop-index-test.true c.loop-index.invariant
    (let h = c.if-followers-index.false in grind arith)

pub returns : goal.returns
returns c =
    no_row c.args.place c.args.followers.now
    (subst (All (λ (f : Follower). nat_eq c.args.place f.place ≡ false)) (take_all c.args.followers.now c.loop-index.index c.loop-index-test.false) c.loop-index.invariant)
