use Rattle.std.proofs.Common.{subst, ap, ◌∙◌}
use Rattle.spec_link.specs.Parts.{write_acts}
use Rattle.link_side.specs.Kept.{Side}
use Rattle.link_side.specs.Single.{WritesAlone}
use Rattle.link_side.specs.WireView.{kept}
use Rattle.link_side.proofs.PartLemmas.{acts_alive, none_unsaid}
use Rattle.link_side.proofs.SilentLemmas.{writes_single}
use Rattle.link_side.proofs.side.LinkSide.write_only.Goals as goal

pub invariant_of-self : goal.invariant_of-self
invariant_of-self g c =
    let f = c.write_due.ensures.run in
    record {
      sound = c.write_due.ensures.sound;
      alive = acts_alive (kept c.self.inside.wire) (kept c.write_due.new.self) (write_acts c.write_due.result f.0, f.1) c.self.invariant.alive;
      rest = λ _. c.write_due.ensures.rest;
      unsaid = λ m e. none_unsaid c.self.inside.behind m _ (ap (λ (x : Side). x.behind) c.self.view_is ∙ c.requires.rest) e;
    }

pub returns-clause-writes : goal.returns-clause-writes
returns-clause-writes g c =
    let f = c.write_due.ensures.run in
    subst (λ (x : Side). WritesAlone x.kept c.write_due.result (kept c.write_due.new.self) (g.L.Link.said c.args.link.now) (g.L.Link.said c.write_due.new.link)) c.self.view_is
    (writes_single (kept c.self.inside.wire) (kept c.write_due.new.self) c.write_due.result f.0 _ _ (c.self.invariant.rest (ap (λ (x : Side). x.behind) c.self.view_is ∙ c.requires.rest)) f.2 f.3 f.1 c.write_due.ensures.due)
