use Rattle.std.proofs.Common.{◌≡◌}
use Rattle.link_side.specs.Kept.{Side, IsAtRest}
use Rattle.link_side.specs.declared.behind.Behind.TheVariants.{Nothing}
use Rattle.zq_session.proofs.NotingLemmas.{ease_at}
use Rattle.zq_session.proofs.RowLemmas.{story_fates_none, story_fates_some}
use Rattle.zq_session.proofs.course.Course.carried.Goals as goal

pub returns-in-None : goal.returns-in-None
returns-in-None c = λ ease p keeps good. story_fates_none c.args.self.now p keeps c.carried.result.written c.carried.result.lost c.in-None.is c.carried.ensures.written c.carried.ensures.lost good

pub returns-then-is_behind : goal.returns-then-is_behind
returns-then-is_behind c = λ ease p keeps good.
    let b = ease_at (λ (x : Side). x.behind ≡ Nothing) c.args.self.now.side c.in-Some.side c.in-Some.is ease in
    absurd (c.is_behind.ensures.yes c.if-is_behind.true b)

pub returns-in-Some : goal.returns-in-Some
returns-in-Some c = λ ease p keeps good.
    let b = ease_at (λ (x : Side). x.behind ≡ Nothing) c.args.self.now.side c.in-Some.side c.in-Some.is ease in
    story_fates_some c.args.self.now p keeps c.in-Some.side c.in-Some.is b (ease_at (λ (x : Side). IsAtRest x.kept) c.args.self.now.side c.in-Some.side c.in-Some.is (c.rests.ensures ease)) c.carried-in-Some.result.written c.carried-in-Some.result.lost c.has_output.result c.has_output.ensures.yes c.has_output.ensures.no c.carried-in-Some.ensures.written c.carried-in-Some.ensures.lost good
