use Rattle.std.proofs.Common.{subst, ap, ◌∙◌}
use Rattle.link_side.specs.Kept.{Side, IsAtRest}
use Rattle.link_side.specs.Calls.{put_acts}
use Rattle.link_side.specs.Single.{PutsBy}
use Rattle.link_side.specs.WireView.{kept}
use Rattle.link_side.proofs.PartLemmas.{acts_alive, drained_by, some_pipe, none_unsaid}
use Rattle.link_side.proofs.SilentLemmas.{puts_single}
use Rattle.link_side.proofs.side.LinkSide.put_whole.Goals as goal

pub invariant_of-self : goal.invariant_of-self
invariant_of-self g c =
    let k = c.commit.ensures.run in
    let was = c.self.invariant.rest (ap (λ (x : Side). x.behind) c.self.view_is ∙ c.requires.rest) in
    record {
      sound = c.commit.ensures.sound;
      alive = acts_alive (kept c.self.inside.wire) (kept c.commit.new.self) (put_acts some_pipe k.0 c.commit.result.full, k.2 some_pipe) c.self.invariant.alive;
      rest = λ _. record {
        fed = c.commit.ensures.unfed ∙ was.fed;
        current = c.commit.ensures.current;
        drained = drained_by (kept c.commit.new.self) c.commit.result.full c.commit.ensures.full c.commit.ensures.all;
      };
      unsaid = λ m e. none_unsaid c.self.inside.behind m _ (ap (λ (x : Side). x.behind) c.self.view_is ∙ c.requires.rest) e;
    }

pub returns-clause-puts : goal.returns-clause-puts
returns-clause-puts g c =
    let k = c.commit.ensures.run in
    let was = c.self.invariant.rest (ap (λ (x : Side). x.behind) c.self.view_is ∙ c.requires.rest) in
    let now : IsAtRest (kept c.commit.new.self) = record {
      fed = c.commit.ensures.unfed ∙ was.fed;
      current = c.commit.ensures.current;
      drained = drained_by (kept c.commit.new.self) c.commit.result.full c.commit.ensures.full c.commit.ensures.all;
    } in
    subst (λ (x : Side). PutsBy g.P.Pipes.known x.kept (kept c.commit.new.self) c.args.pipes.now c.args.out.now c.commit.new.pipes c.commit.new.out) c.self.view_is
    (puts_single g.P.Pipes.known (kept c.self.inside.wire) (kept c.commit.new.self) k.0 c.commit.result.full _ _ _ _ k.1 k.2 now c.commit.ensures.full c.commit.ensures.all)
