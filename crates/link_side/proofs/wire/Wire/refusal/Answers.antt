use Rattle.zmtp_engine.specs.Answers.{IsShaking, IsRunning}
use Rattle.link_side.specs.WireView.{kept}
use Rattle.link_side.proofs.SilentLemmas.{refused_now, unrefused_now, running_differs, shaking_unrefused}
use Rattle.link_side.proofs.wire.Wire.refusal.Goals as goal

pub returns-in-Refused-clause-some : goal.returns-in-Refused-clause-some
returns-in-Refused-clause-some c = refused_now (kept c.args.self.now) c.in-Refused.refusal c.requires.rest.fed c.requires.rest.current c.in-Refused.ensures.meaning

pub returns-in-Running-clause-none : goal.returns-in-Running-clause-none
returns-in-Running-clause-none c = unrefused_now (kept c.args.self.now) (IsRunning c.in-Running.field-0.now) c.requires.rest.fed c.requires.rest.current (running_differs c.in-Running.field-0.now) c.in-Running.ensures.meaning

pub returns-in-Shaking-clause-none : goal.returns-in-Shaking-clause-none
returns-in-Shaking-clause-none c = unrefused_now (kept c.args.self.now) IsShaking c.requires.rest.fed c.requires.rest.current shaking_unrefused c.in-Shaking.ensures.meaning
