use Rattle.std.proofs.Common.{Option, subst}
use Rattle.link_side.specs.Dials.{DiallerState}
use Rattle.zq_session.specs.Courses.{IsOfDials}
use Rattle.zq_session.proofs.CourseLemmas.{dials_after}
use Rattle.zq_session.proofs.at_link.dials_later.Goals as goal

pub returns-in-Some : goal.returns-in-Some
returns-in-Some c = λ dials p k.
    dials_after c.args.now dials p c.in-Some.dials c.link_over.new.self c.link_over.ensures (subst (λ (o : Option DiallerState). IsOfDials dials p o) c.in-Some.is k)
