use Rattle.std.proofs.Common.{ap, subst, ◌∙◌}
use Rattle.spec_link.specs.Parts.{puts}
use Rattle.link_side.specs.Kept.{Side}
use Rattle.link_side.specs.Single.{DropsBy}
use Rattle.link_side.specs.WireView.{kept}
use Rattle.link_side.proofs.PartLemmas.{acts_alive, some_pipe, none_unsaid}
use Rattle.link_side.proofs.DropLemmas.{drops_by, rest_dropped}
use Rattle.link_side.proofs.side.LinkSide.drop_whole.Goals as goal

pub invariant_of-self : goal.invariant_of-self
invariant_of-self c =
    let k = c.drop_whole.ensures.run in
    let was = c.self.invariant.rest (ap (λ (x : Side). x.behind) c.self.view_is ∙ c.requires.rest) in
    record {
      sound = c.drop_whole.ensures.sound;
      alive = acts_alive (kept c.self.inside.wire) (kept c.drop_whole.new.self) (puts some_pipe k.0, k.1 some_pipe) c.self.invariant.alive;
      rest = λ _. rest_dropped (kept c.drop_whole.new.self) (c.drop_whole.ensures.unfed ∙ was.fed) c.drop_whole.ensures.current c.drop_whole.ensures.all;
      unsaid = λ m e. none_unsaid c.self.inside.behind m _ (ap (λ (x : Side). x.behind) c.self.view_is ∙ c.requires.rest) e;
    }

pub returns-clause-drops : goal.returns-clause-drops
returns-clause-drops c =
    let k = c.drop_whole.ensures.run in
    let was = c.self.invariant.rest (ap (λ (x : Side). x.behind) c.self.view_is ∙ c.requires.rest) in
    subst (λ (x : Side). DropsBy x.kept (kept c.drop_whole.new.self)) c.self.view_is
    (drops_by (kept c.self.inside.wire) (kept c.drop_whole.new.self) k.0 k.1 (c.drop_whole.ensures.unfed ∙ was.fed) c.drop_whole.ensures.current c.drop_whole.ensures.all)
