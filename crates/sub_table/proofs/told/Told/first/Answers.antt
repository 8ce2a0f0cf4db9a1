use Rattle.std.proofs.Common.{◌∙◌, ap, sym, refl, subst, Some}
use Rattle.spec_pattern.specs.Topics.{AreInOrder}
use Rattle.spec_pattern.specs.Wanted.{wants}
use Rattle.sub_table.specs.Telling.{ToldState}
use Rattle.sub_table.proofs.TellLemmas.{difference-first, difference-no_suspect}
use Rattle.sub_table.proofs.told.Told.first.Goals as goal

pub returns-in-None : goal.returns-in-None
returns-in-None c =
    sym (difference-no_suspect c.args.wanted.now c.args.self.now (ap (λ s. s.suspects) (sym c.self.view_is) ∙ c.in-None.ensures.first) c.requires.known c.requires.settled.found)

pub returns-in-Some : goal.returns-in-Some
returns-in-Some c =
    let s = c.args.self.now in
    let t = c.in-Some.topic.now in
    (λ j. Some (c.octet-octet.ensures j, c.in_ok-topic-in-Some.ensures.items j))
    ∙ sym (difference-first c.args.wanted.now s t c.in-Some.ensures.first.0 (ap (λ (v : ToldState). v.suspects) (sym c.self.view_is) ∙ c.in-Some.ensures.first.1)
    (subst (λ (v : ToldState). AreInOrder v.suspects) c.self.view_is c.in-Some.ensures.order) c.requires.known c.requires.settled (wants c.args.wanted.now t) refl)
