use Rattle.std.proofs.Common.{refl}
use Rattle.zq_session.proofs.DialLemmas.{looks_by}
use Rattle.zq_session.proofs.HalfLemmas.{look_there}
use Rattle.zq_session.proofs.course.Course.look.Goals as goal

pub returns-clause-looks : goal.returns-clause-looks
returns-clause-looks g c = λ p o.
    looks_by g.P.Pipes.known c.args.self.now (record c.args.self.now { life = c.delimiter_due.new.self }) c.found_delimiter.result c.look_at-found.result _ _ _ _ o
    refl refl refl refl refl c.found_delimiter.ensures.yes c.found_delimiter.ensures.no c.look_at-found.ensures.looks c.delimiter_due.ensures.does p

pub returns-clause-there : goal.returns-clause-there
returns-clause-there g c = λ o. look_there g.P.Pipes.known _ c.look_at-found.result _ _ c.args.self.now.life.state _ _ o c.look_at-found.ensures.looks
