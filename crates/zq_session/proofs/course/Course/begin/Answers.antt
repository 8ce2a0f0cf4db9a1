use Rattle.std.proofs.Common.{Bool, refl, ap, ◌∙◌}
use Rattle.std.specs.Prelude.{◌||◌}
use Rattle.link_side.proofs.PartLemmas.{on_err}
use Rattle.zq_session.proofs.BeginLemmas.{begins_by, begins_cut}
use Rattle.zq_session.proofs.course.Course.begin.Goals as goal

pub returns-in_err-catch_up-clause-err : goal.returns-in_err-catch_up-clause-err
returns-in_err-catch_up-clause-err c =
    on_err c.from_residual.result _ (begins_cut c.args.now c.give_up_due-gives.result c.args.self.now (record c.args.self.now { life = c.give_up_due-gives.new.self }) c.catch_up.new.self refl refl refl refl refl c.give_up_due-gives.ensures.does c.catch_up.ensures.story c.catch_up.ensures.life.0 c.catch_up.ensures.life.1)

pub returns-clause-ok : goal.returns-clause-ok
returns-clause-ok c =
    begins_by c.args.now c.give_up_due-gives.result c.output_due-output.result c.over_due-over.result _ c.args.self.now (record c.args.self.now { life = c.give_up_due-gives.new.self }) c.catch_up.new.self c.output_due-output.new.self (record c.output_due-output.new.self { life = c.over_due-over.new.self })
    refl refl refl refl refl c.give_up_due-gives.ensures.does c.catch_up.ensures.story c.catch_up.ensures.life.0 c.catch_up.ensures.life.1 c.output_due-output.ensures.does refl refl refl refl refl c.over_due-over.ensures.does (c.either.ensures ∙ ap (λ (x : Bool). c.give_up_due-gives.result || x) c.either-due.ensures)
