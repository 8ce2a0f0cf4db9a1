use Rattle.std.proofs.Common.{Option, refl, ap, sym, ◌∙◌}
use Rattle.std.specs.Prelude.{is_some}
use Rattle.link_side.proofs.PartLemmas.{on_err}
use Rattle.zq_session.specs.Moved.{MovesBy}
use Rattle.zq_session.specs.Sessions.{SessionState}
use Rattle.spec_link.specs.TurnParts.{IsDialPart}
use Rattle.zq_session.proofs.TurnLemmas.{none_is}
use Rattle.zq_session.proofs.SessionLemmas.{did_of}
use Rattle.zq_session.proofs.PartsLemmas.{did_tells, dials_by, cut_dials_by, dials_nothing}
use Rattle.zq_session.proofs.session.Session.dial.Goals as goal

pub returns-in-Some-clause-did : goal.returns-in-Some-clause-did
returns-in-Some-clause-did g c = dials_nothing g.P.Pipes.known _ _ _ _ _ _ c.args.now c.args.self.now _ _ refl (sym c.requires.linked ∙ ap (λ (o : Option _). is_some o) c.in-Some.is)

pub returns-clause-did : goal.returns-clause-did
returns-clause-did g c =
    did_tells g.P.Pipes.known _ _ _ _ _ IsDialPart c.in_ok-done.done.moved c.as_turned.result c.args.now _ _ _ _ _ _ c.as_turned.ensures
    (did_of g.P.Pipes.known _ _ _ _ _ (MovesBy c.in_ok-done.done.moved IsDialPart) c.args.now c.self.inside.course c.dial_part.new.self c.self.inside.given c.args.self.now _ _ _ _ _ _ _ _ c.self.view_is
    (λ p keeps. dials_by g.P.Pipes.known _ _ _ _ _ (MovesBy c.in_ok-done.done.moved IsDialPart) c.args.now c.self.inside.course c.dial_part.new.self _ _ _ _ _ _ c.self.inside.out p c.in-None.is c.in_ok-done.ensures.fresh (c.in_ok-done.ensures.part p c.self.inside.out keeps)))

pub returns-in_err-done-clause-cut : goal.returns-in_err-done-clause-cut
returns-in_err-done-clause-cut g c =
    on_err _ _ (did_of g.P.Pipes.known _ _ _ _ _ _ c.args.now c.self.inside.course c.dial_part.new.self c.self.inside.given c.args.self.now _ _ _ _ _ _ _ _ c.self.view_is
    (λ p keeps. cut_dials_by g.P.Pipes.known _ _ _ _ _ c.args.now c.self.inside.course c.dial_part.new.self _ _ _ _ _ _ c.self.inside.out p c.in-None.is c.in-None.is (ap (λ (x : SessionState _ _). x.course.side) c.self.view_is ∙ none_is _ (sym c.requires.linked ∙ ap (λ (o : Option _). is_some o) c.in-None.is)) keeps (c.in_err-done.ensures.cut p c.self.inside.out keeps)))
