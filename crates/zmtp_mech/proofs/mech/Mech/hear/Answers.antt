use Rattle.spec_zmtp.specs.Handshake.{Told}
use Rattle.zmtp_mech.proofs.SayableLemmas.{answer_sayable}
use Rattle.zmtp_mech.proofs.mech.Mech.hear.Goals as goal

pub returns-clause-sayable : goal.returns-clause-sayable
returns-clause-sayable c = answer_sayable c.self.inside.opts c.self.inside.stage (Told c.args.command) c.in_ok-step.step.answer c.self.invariant c.in_ok-step.ensures.answer
