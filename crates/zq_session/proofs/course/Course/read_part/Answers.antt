use Rattle.std.proofs.Common.{Option, refl, ap, sym, inl, inr, ◌∙◌}
use Rattle.std.specs.Prelude.{is_some}
use Rattle.link_side.proofs.PartLemmas.{on_err}
use Rattle.zq_session.proofs.TurnLemmas.{reads_not, reads_given_up, reads_part, reads_cut, reads_cut_at}
use Rattle.zq_session.proofs.course.Course.read_part.Goals as goal

pub returns-in-None-clause-did : goal.returns-in-None-clause-did
returns-in-None-clause-did g c = λ p i keeps.
    reads_not g.P.Pipes.known _ _ _ _ _ _ c.args.now c.args.self.now _ _ i _ p refl (sym c.requires.linked ∙ ap (λ (o : Option _). is_some o) c.in-None.is) keeps

pub returns-then-up-clause-did : goal.returns-then-up-clause-did
returns-then-up-clause-did g c = λ p i keeps.
    reads_given_up g.P.Pipes.known _ _ _ _ _ _ c.args.now c.args.self.now _ _ _ i _ p (sym c.in-Some.is) refl (sym c.requires.linked ∙ ap (λ (o : Option _). is_some o) c.in-Some.is) c.if-up.true keeps

pub returns-then-not-over-clause-did : goal.returns-then-not-over-clause-did
returns-then-not-over-clause-did g c =
    reads_part g.P.Pipes.known _ _ _ _ _ c.args.now c.args.self.now c.ease.new.self c.read_at_link.new.self c.ease.ensures.life.0 c.ease.ensures.life.1 c.if-up.false c.ease.ensures.story c.in_ok-worked-in-Some.worked.moved _ _ _ c.read_at_link.new.link _ _ _ _
    c.in_ok-worked-in-Some.ensures.did (inr refl) c.in-Some.is

pub returns-in-Some-clause-did : goal.returns-in-Some-clause-did
returns-in-Some-clause-did g c =
    reads_part g.P.Pipes.known _ _ _ _ _ c.args.now c.args.self.now c.ease.new.self c.read_at_link.new.self c.ease.ensures.life.0 c.ease.ensures.life.1 c.if-up.false c.ease.ensures.story c.in_ok-worked-in-Some.worked.moved _ _ _ c.read_at_link.new.link _ _ _ _
    c.in_ok-worked-in-Some.ensures.did (inl refl) c.in-Some.is

pub returns-in_err-ease-in-Some-clause-cut : goal.returns-in_err-ease-in-Some-clause-cut
returns-in_err-ease-in-Some-clause-cut g c =
    on_err _ _ (reads_cut g.P.Pipes.known _ _ _ _ _ _ c.args.now c.args.self.now c.ease.new.self _ _ _ _ (sym c.in-Some.is) c.in_err-ease-in-Some.ensures.err (sym c.requires.linked ∙ ap (λ (o : Option _). is_some o) c.in-Some.is) c.if-up.false
    c.ease.ensures.life.0 c.ease.ensures.life.1 c.ease.ensures.story)

pub returns-in_err-worked-in-Some-clause-cut : goal.returns-in_err-worked-in-Some-clause-cut
returns-in_err-worked-in-Some-clause-cut g c =
    on_err _ _ (reads_cut_at g.P.Pipes.known _ _ _ _ _ c.args.now c.args.self.now c.ease.new.self c.read_at_link.new.self c.ease.ensures.life.0 c.ease.ensures.life.1 c.if-up.false c.ease.ensures.story _ _ _ c.read_at_link.new.link _ _ _ _
    c.in_err-worked-in-Some.ensures.cut c.in-Some.is)
