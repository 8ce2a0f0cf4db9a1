use Rattle.std.specs.Prelude.{refl}
use Rattle.ctl_state.proofs.MailLemmas.{on_some, taken_stands}
use Rattle.ctl_state.proofs.state.State.take.Goals as goal

pub returns-clause-stands : goal.returns-clause-stands
returns-clause-stands g c = on_some c.take.result _ _ c.take.ensures.front
    (λ command t k h. taken_stands c.args.self.now _ refl refl refl refl c.args.slot.0 command t t.many k h)
