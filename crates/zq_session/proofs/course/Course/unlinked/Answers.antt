use Rattle.std.proofs.Common.{refl}
use Rattle.zq_session.proofs.UnlinkedLemmas.{unlinked_by, cut_unlinked}
use Rattle.link_side.proofs.PartLemmas.{on_err}
use Rattle.zq_session.proofs.HalfLemmas.{look_there}
use Rattle.zq_session.proofs.course.Course.unlinked.Goals as goal

pub returns-clause-works : goal.returns-clause-works
returns-clause-works g c = λ p o.
    unlinked_by g.P.Pipes.known c.args.now c.args.self.now (record c.args.self.now { life = c.delimiter_due.new.self }) c.dial.new.self c.can_read.result c.found_delimiter-met.result c.in_ok-dialled.dialled.moved c.either.result c.look_at-found.result _ _ _ _ _ _ _ _ o
    c.requires.no_link c.requires.no_link refl refl refl refl c.can_read.ensures.yes c.can_read.ensures.no c.found_delimiter-met.ensures.yes c.found_delimiter-met.ensures.no c.look_at-found.ensures.looks c.delimiter_due.ensures.does c.in_ok-dialled.ensures.dials c.either.ensures p

pub returns-in_err-dialled-clause-cut : goal.returns-in_err-dialled-clause-cut
returns-in_err-dialled-clause-cut g c =
    on_err _ _ (cut_unlinked g.P.Pipes.known c.args.self.now (record c.args.self.now { life = c.delimiter_due.new.self }) c.dial.new.self c.can_read.result c.found_delimiter-met.result c.look_at-found.result _ _ _ _
    c.requires.no_link c.requires.no_link refl refl refl refl c.in_err-dialled.ensures.err.0 c.can_read.ensures.yes c.can_read.ensures.no c.found_delimiter-met.ensures.yes c.found_delimiter-met.ensures.no c.look_at-found.ensures.looks c.delimiter_due.ensures.does)

pub returns-clause-there : goal.returns-clause-there
returns-clause-there g c = λ o. look_there g.P.Pipes.known c.can_read.result c.look_at-found.result _ _ c.args.self.now.life.state _ _ o c.look_at-found.ensures.looks

pub returns-in_err-dialled-clause-there : goal.returns-in_err-dialled-clause-there
returns-in_err-dialled-clause-there g c = λ o. look_there g.P.Pipes.known c.can_read.result c.look_at-found.result _ _ c.args.self.now.life.state _ _ o c.look_at-found.ensures.looks
