use Rattle.std.specs.Prelude.{refl}
use Rattle.ctl_state.proofs.MailLemmas.{back_stands}
use Rattle.ctl_state.proofs.state.State.put_back.Goals as goal

pub returns-clause-stands : goal.returns-clause-stands
returns-clause-stands g c = λ k h e. back_stands c.args.self.now _ refl refl refl refl c.args.slot.0 c.args.command c.requires.there c.put_back.ensures k e h
