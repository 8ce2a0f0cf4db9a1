use Rattle.std.proofs.Common.{Some, refl}
use Rattle.zq_session.proofs.StepLemmas.{story_heard, story_passed, story_kept, story_prepared}
use Rattle.zq_session.proofs.course.Course.catch_up.Goals as goal

pub returns-in-None-clause-story : goal.returns-in-None-clause-story
returns-in-None-clause-story c = story_prepared c.args.self.now c.prepare.new.topics c.in-None.is c.prepare.ensures.either

pub returns-in_err-pass_on-in-Some-clause-story : goal.returns-in_err-pass_on-in-Some-clause-story
returns-in_err-pass_on-in-Some-clause-story c =
    let e = c.in_err-pass_on-in-Some.ensures.err in
    story_kept c.args.self.now c.in-Some.side c.pass_on.new.side c.pass_on.new.topics c.in-Some.is e.0 e.1.0

pub returns-in-Ok-clause-story : goal.returns-in-Ok-clause-story
returns-in-Ok-clause-story c = λ p k.
    story_heard (record c.args.self.now { side = Some c.pass_on.new.side; topics = c.pass_on.new.topics }) c.pass_on.new.side c.catch_up.new.self refl c.in_ok-pass_on-in-Some.ensures.free c.catch_up.ensures.free c.catch_up.ensures.run p
    (story_passed c.args.self.now c.in-Some.side c.pass_on.new.side c.pass_on.new.topics c.in-Some.is c.in_ok-pass_on-in-Some.ensures.ok p k)

pub returns-in-Err-clause-story : goal.returns-in-Err-clause-story
returns-in-Err-clause-story c = λ p k.
    story_heard (record c.args.self.now { side = Some c.pass_on.new.side; topics = c.pass_on.new.topics }) c.pass_on.new.side c.catch_up.new.self refl c.in_ok-pass_on-in-Some.ensures.free c.catch_up.ensures.free c.catch_up.ensures.run p
    (story_passed c.args.self.now c.in-Some.side c.pass_on.new.side c.pass_on.new.topics c.in-Some.is c.in_ok-pass_on-in-Some.ensures.ok p k)
