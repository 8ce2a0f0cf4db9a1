use Rattle.std.proofs.Common.{Option, subst}
use Rattle.spec_control.specs.declared.end.EndState.{EndState}
use Rattle.link_side.proofs.PartLemmas.{on_err}
use Rattle.zq_session.specs.LifeView.{IsReadable}
use Rattle.zq_session.proofs.DialLemmas.{dials_given_up, dials_part, dials_cut, dials_cut_behind}
use Rattle.zq_session.proofs.course.Course.dial_part.Goals as goal

pub unlinked-requires-clause-there : goal.unlinked-requires-clause-there
unlinked-requires-clause-there g c = λ r. c.requires.there (subst (λ (s : Option EndState). IsReadable s) c.begin.ensures.state r)

pub returns-then-up-clause-part : goal.returns-then-up-clause-part
returns-then-up-clause-part g c = λ p o keeps.
    dials_given_up g.P.Pipes.known c.args.now c.in_ok-begun.begun c.args.self.now c.begin.new.self _ _ o p c.requires.no_link keeps c.if-up.true (c.in_ok-begun.ensures.ok p keeps)

pub returns-clause-part : goal.returns-clause-part
returns-clause-part g c = λ p o keeps.
    let begins = c.in_ok-begun.ensures.ok p keeps in
    dials_part g.P.Pipes.known c.args.now c.in_ok-begun.begun c.in_ok-done.done.moved c.either.result c.args.self.now c.begin.new.self c.unlinked.new.self _ _ _ _ o p c.requires.no_link keeps c.if-up.false c.either.ensures begins
    (c.in_ok-done.ensures.works begins.step.story o begins.step.keeps)

pub returns-in_err-begun-clause-cut : goal.returns-in_err-begun-clause-cut
returns-in_err-begun-clause-cut g c = on_err _ _ (dials_cut g.P.Pipes.known c.args.now c.args.self.now c.begin.new.self _ _ c.in_err-begun.ensures.err)

pub returns-in_err-done-clause-cut : goal.returns-in_err-done-clause-cut
returns-in_err-done-clause-cut g c =
    on_err _ _ (dials_cut_behind g.P.Pipes.known c.args.now c.in_ok-begun.begun c.args.self.now c.begin.new.self c.unlinked.new.self _ _ _ _ c.if-up.false c.in_ok-begun.ensures.ok c.in_err-done.ensures.cut)
