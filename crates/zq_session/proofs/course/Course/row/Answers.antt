use Rattle.std.proofs.Common.{◌≡◌}
use Rattle.link_side.specs.Kept.{Side, IsAtRest}
use Rattle.link_side.specs.declared.behind.Behind.TheVariants.{Nothing}
use Rattle.zq_session.proofs.NotingLemmas.{ease_at}
use Rattle.zq_session.proofs.RowLemmas.{story_row_none, story_row_some}
use Rattle.zq_session.proofs.course.Course.row.Goals as goal

pub returns-in-None : goal.returns-in-None
returns-in-None c = λ ease p keeps. story_row_none c.args.self.now p keeps c.row.result c.in-None.is c.row.ensures

pub returns-in-Some : goal.returns-in-Some
returns-in-Some c = λ ease p keeps.
    let b = ease_at (λ (x : Side). x.behind ≡ Nothing) c.args.self.now.side c.in-Some.side c.in-Some.is ease in
    story_row_some c.args.self.now p keeps c.in-Some.side c.in-Some.is b (ease_at (λ (x : Side). IsAtRest x.kept) c.args.self.now.side c.in-Some.side c.in-Some.is (c.rests.ensures ease)) c.heard.result c.put_at.result c.row-in-Some.result (c.heard.ensures b) c.put_at.ensures.drops c.put_at.ensures.puts c.row-in-Some.ensures
