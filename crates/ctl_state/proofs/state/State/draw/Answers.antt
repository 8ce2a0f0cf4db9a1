use Rattle.std.specs.Prelude.{refl}
use Rattle.ctl_state.proofs.MakingLemmas.{draw_stands}
use Rattle.ctl_state.proofs.state.State.draw.Goals as goal

pub returns-clause-ok : goal.returns-clause-ok
returns-clause-ok g c = λ k h. draw_stands c.args.self.now _ c.args.a_owner c.args.b_owner c.in_ok-pair.ensures.ok refl refl refl refl k h
