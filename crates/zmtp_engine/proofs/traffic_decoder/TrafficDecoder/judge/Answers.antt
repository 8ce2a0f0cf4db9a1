use Rattle.std.proofs.Common.{Option, sym, ap, subst, ◌∙◌}
use Rattle.spec_zmtp.specs.declared.flags.FrameKind.{FrameKind}
use Rattle.spec_zmtp.specs.declared.flags.Flags.{Flags}
use Rattle.zmtp_frame.specs.declared.step.Step.{Step}
use Rattle.zmtp_engine.specs.Verdict.{kind_verdict, flags_verdict, IsToldOf}
use Rattle.zmtp_engine.proofs.traffic_decoder.TrafficDecoder.judge.Goals as goal

pub returns-in-Head : goal.returns-in-Head
returns-in-Head c =
    let t = subst (λ (s : Step). IsToldOf s c.args.flags) c.in-Head.is c.requires.told in
    c.judge_kind.ensures ∙ ap (λ (k : FrameKind). kind_verdict c.args.self.now.mech.stage c.args.self.now.parts.items k) (sym t.2)
    ∙ ap (λ (o : Option Flags). flags_verdict c.args.self.now.mech.stage c.args.self.now.parts.items o) (sym t.1)
