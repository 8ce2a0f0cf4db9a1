use Rattle.std.specs.Prelude.{refl}
use Rattle.ctl_state.proofs.MailLemmas.{room_stands}
use Rattle.ctl_state.proofs.state.State.reserve.Goals as goal

pub returns-clause-ok : goal.returns-clause-ok
returns-clause-ok g c = λ k h. room_stands c.args.self.now _ refl refl refl refl c.args.slot.0 _ c.in_ok-reserve.ensures.ok k h
