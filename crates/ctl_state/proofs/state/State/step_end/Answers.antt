use Rattle.std.specs.Prelude.{refl}
use Rattle.std.proofs.Common.{ap, sym, ◌∙◌}
use Rattle.spec_control.specs.Control.{commands_in}
use Rattle.ctl_state.specs.Pairs.{spot_at}
use Rattle.ctl_state.proofs.PairLemmas.{stepped_commands}
use Rattle.ctl_state.proofs.EndLemmas.{place_stands, step_stands}
use Rattle.ctl_state.proofs.state.State.step_end.Goals as goal

pub returns-clause-stands : goal.returns-clause-stands
returns-clause-stands g c = λ k h. step_stands c.args.self.now c.args.e k h _ c.args.event c.requires.may c.requires.stays c.happens.ensures.next refl refl refl refl

pub returns-clause-commands : goal.returns-clause-commands
returns-clause-commands g c = λ k h. c.happens.ensures.commands ∙ stepped_commands c.args.event (spot_at c.args.self.now.pairs c.args.e)
    ∙ sym (ap (commands_in c.args.event) (place_stands c.args.self.now c.args.e k h))
