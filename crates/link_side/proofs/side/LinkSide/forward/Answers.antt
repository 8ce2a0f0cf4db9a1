use Rattle.std.proofs.Common.{[], ◌∷◌, refl, sym, ◌∙◌}
use Rattle.spec_pattern.specs.PipeStep.{Take}
use Rattle.spec_link.specs.LinkAct.{Step}
use Rattle.link_side.specs.WireView.{kept}
use Rattle.link_side.proofs.PartLemmas.{acts_alive, none_unsaid, some_pipe}
use Rattle.link_side.proofs.side.LinkSide.forward.Goals as goal

pub invariant_of-self-in-Unsaid : goal.invariant_of-self-in-Unsaid
invariant_of-self-in-Unsaid c =
    let act = Step (Take some_pipe c.in-Unsaid.message) in
    record {
      sound = c.say.ensures.sound;
      alive = acts_alive (kept c.self.inside.wire) (kept c.say.new.self) (act ∷ [], c.say.ensures.run act (record { said = refl; heard = refl; offered = refl; put = refl })) c.self.invariant.alive;
      rest = λ _. c.say.ensures.rest (c.self.invariant.unsaid c.in-Unsaid.message (sym c.replace.ensures.value ∙ c.in-Unsaid.is)).0;
      unsaid = λ m e. none_unsaid c.replace.new.dest m _ c.replace.ensures.after e;
    }
