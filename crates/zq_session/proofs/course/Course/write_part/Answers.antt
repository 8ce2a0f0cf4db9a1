use Rattle.std.proofs.Common.{Option, refl, ap, sym, subst, inl, inr, ◌∙◌}
use Rattle.std.specs.Prelude.{is_some}
use Rattle.spec_control.specs.declared.end.EndState.{EndState}
use Rattle.link_side.proofs.PartLemmas.{on_err}
use Rattle.zq_session.specs.Halves.{AreThere}
use Rattle.zq_session.proofs.TurnLemmas.{writes_not, writes_given_up, writes_part, writes_cut, writes_cut_at}
use Rattle.zq_session.proofs.course.Course.write_part.Goals as goal

pub write_at_link-requires-clause-has_link : goal.write_at_link-requires-clause-has_link
write_at_link-requires-clause-has_link g c = c.begin.ensures.link ∙ sym c.requires.linked ∙ ap (λ (o : Option _). is_some o) c.in-Some.is

pub write_at_link-requires-clause-there : goal.write_at_link-requires-clause-there
write_at_link-requires-clause-there g c = subst (λ (s : Option EndState). AreThere g.P.Pipes.known s c.args.pipes.now c.args.input.now c.args.out.now) (sym c.begin.ensures.state) c.requires.there

pub returns-in-None-clause-did : goal.returns-in-None-clause-did
returns-in-None-clause-did g c = λ p keeps.
    writes_not g.P.Pipes.known _ _ _ _ _ _ c.args.now c.args.self.now _ _ _ _ p refl (sym c.requires.linked ∙ ap (λ (o : Option _). is_some o) c.in-None.is) keeps

pub returns-then-up-clause-did : goal.returns-then-up-clause-did
returns-then-up-clause-did g c = λ p keeps.
    writes_given_up g.P.Pipes.known _ _ _ _ _ c.args.now c.in_ok-begun-in-Some.begun c.args.self.now c.begin.new.self _ _ _ _ _ p (sym c.in-Some.is) (sym c.requires.linked ∙ ap (λ (o : Option _). is_some o) c.in-Some.is) keeps c.if-up.true (c.in_ok-begun-in-Some.ensures.ok p keeps)

pub returns-then-not-over-clause-did : goal.returns-then-not-over-clause-did
returns-then-not-over-clause-did g c = λ p keeps.
    let begins = c.in_ok-begun-in-Some.ensures.ok p keeps in
    writes_part g.P.Pipes.known _ _ _ _ _ c.args.now c.in_ok-begun-in-Some.begun c.in_ok-worked-in-Some.worked.moved _ c.args.self.now c.begin.new.self c.write_at_link.new.self _ _ _ c.write_at_link.new.link _ _ _ _ _ _ p c.if-up.false begins
    (c.in_ok-worked-in-Some.ensures.did begins.step.story begins.step.keeps) c.either-moved.ensures (inr refl) c.in-Some.is

pub returns-in-Some-clause-did : goal.returns-in-Some-clause-did
returns-in-Some-clause-did g c = λ p keeps.
    let begins = c.in_ok-begun-in-Some.ensures.ok p keeps in
    writes_part g.P.Pipes.known _ _ _ _ _ c.args.now c.in_ok-begun-in-Some.begun c.in_ok-worked-in-Some.worked.moved _ c.args.self.now c.begin.new.self c.write_at_link.new.self _ _ _ c.write_at_link.new.link _ _ _ _ _ _ p c.if-up.false begins
    (c.in_ok-worked-in-Some.ensures.did begins.step.story begins.step.keeps) c.either-moved.ensures (inl refl) c.in-Some.is

pub returns-in_err-begun-in-Some-clause-cut : goal.returns-in_err-begun-in-Some-clause-cut
returns-in_err-begun-in-Some-clause-cut g c =
    on_err _ _ (writes_cut g.P.Pipes.known _ _ _ _ _ c.args.now c.args.self.now c.begin.new.self _ _ _ _ _ (sym c.in-Some.is) (sym c.requires.linked ∙ ap (λ (o : Option _). is_some o) c.in-Some.is) c.in_err-begun-in-Some.ensures.err)

pub returns-in_err-worked-in-Some-clause-cut : goal.returns-in_err-worked-in-Some-clause-cut
returns-in_err-worked-in-Some-clause-cut g c =
    on_err _ _ (writes_cut_at g.P.Pipes.known _ _ _ _ _ c.args.now c.in_ok-begun-in-Some.begun c.args.self.now c.begin.new.self c.write_at_link.new.self _ _ c.write_at_link.new.link _ _ _ _ _ _ c.if-up.false c.in_ok-begun-in-Some.ensures.ok
    c.in_err-worked-in-Some.ensures.cut c.in-Some.is)

pub returns-then-up-clause-there : goal.returns-then-up-clause-there
returns-then-up-clause-there g c = subst (λ (s : Option EndState). AreThere g.P.Pipes.known s c.args.pipes.now c.args.input.now c.args.out.now) (sym c.begin.ensures.state) c.requires.there

pub returns-in_err-begun-in-Some-clause-there : goal.returns-in_err-begun-in-Some-clause-there
returns-in_err-begun-in-Some-clause-there g c = subst (λ (s : Option EndState). AreThere g.P.Pipes.known s c.args.pipes.now c.args.input.now c.args.out.now) (sym c.begin.ensures.state) c.requires.there

pub returns-then-not-over-clause-there : goal.returns-then-not-over-clause-there
returns-then-not-over-clause-there g c = subst (λ (s : Option EndState). AreThere g.P.Pipes.known s c.write_at_link.new.pipes c.write_at_link.new.input c.write_at_link.new.out) (sym c.write_at_link.ensures.state) c.write_at_link.ensures.there

pub returns-in-Some-clause-there : goal.returns-in-Some-clause-there
returns-in-Some-clause-there g c = subst (λ (s : Option EndState). AreThere g.P.Pipes.known s c.write_at_link.new.pipes c.write_at_link.new.input c.write_at_link.new.out) (sym c.write_at_link.ensures.state) c.write_at_link.ensures.there

pub returns-in_err-worked-in-Some-clause-there : goal.returns-in_err-worked-in-Some-clause-there
returns-in_err-worked-in-Some-clause-there g c = subst (λ (s : Option EndState). AreThere g.P.Pipes.known s c.write_at_link.new.pipes c.write_at_link.new.input c.write_at_link.new.out) (sym c.write_at_link.ensures.state) c.write_at_link.ensures.there
