use Rattle.std.proofs.Common.{◌++◌, ap, ◌∙◌}
use Rattle.spec_link.specs.Parts.{write_acts}
use Rattle.link_side.specs.Kept.{Side}
use Rattle.link_side.specs.Says.{repeat_acts}
use Rattle.link_side.specs.WireView.{kept}
use Rattle.link_side.proofs.PartLemmas.{acts_alive, none_unsaid}
use Rattle.link_side.proofs.side.LinkSide.say_part.Goals as goal

pub invariant_of-self : goal.invariant_of-self
invariant_of-self g c =
    let k = c.say_part.ensures.says in
    record {
      sound = c.say_part.ensures.sound;
      alive = acts_alive (kept c.self.inside.wire) (kept c.say_part.new.self) (write_acts c.say_part.result.put k.octets ++ repeat_acts k.message, k.run) c.self.invariant.alive;
      rest = λ _. c.say_part.ensures.rest;
      unsaid = λ m e. none_unsaid c.self.inside.behind m _ (ap (λ (x : Side). x.behind) c.self.view_is ∙ c.requires.rest) e;
    }
