use Rattle.std.proofs.Common.{eqb-true, sym}
use Rattle.std.proofs.lemmas.Bool.{false≢true}
use Rattle.std.proofs.lemmas.List.{nil_from_length}
use Rattle.spec_zmtp.proofs.MetadataLemmas.{not_zero}
use Rattle.zmtp_engine.specs.Answers.{IsShaking, IsRefused}
use Rattle.link_side.specs.WireView.{kept}
use Rattle.link_side.proofs.RestLemmas.{take_due, take_waits_state, take_waits_out, some_left, shaking_differs, refused_differs}
use Rattle.link_side.proofs.wire.Wire.may_take.Goals as goal

pub returns-in-Shaking-clause-wait : goal.returns-in-Shaking-clause-wait
returns-in-Shaking-clause-wait c = λ _ opts acts r may.
    take_waits_state opts acts (kept c.args.self.now) IsShaking c.requires.rest.fed c.requires.rest.current shaking_differs c.in-Shaking.ensures.meaning r may

pub returns-in-Refused-clause-wait : goal.returns-in-Refused-clause-wait
returns-in-Refused-clause-wait c = λ _ opts acts r may.
    take_waits_state opts acts (kept c.args.self.now) (IsRefused c.in-Refused.field-0) c.requires.rest.fed c.requires.rest.current (refused_differs c.in-Refused.field-0) c.in-Refused.ensures.meaning r may

pub returns-then-is_empty-clause-due : goal.returns-then-is_empty-clause-due
returns-then-is_empty-clause-due c = λ _ opts acts r.
    take_due opts acts (kept c.args.self.now) c.in-Running.field-0.now c.requires.rest.fed c.requires.rest.current (c.out.ensures.empty (nil_from_length _ (eqb-true _ _ (sym c.if-is_empty.ensures)))).unwritten c.in-Running.ensures.meaning r

pub returns-clause-wait : goal.returns-clause-wait
returns-clause-wait c = λ _ opts acts r may.
    take_waits_out opts acts (kept c.args.self.now) c.requires.rest.fed c.requires.rest.current
    (some_left c.args.self.now.engine c.out.result.now c.out.ensures.prefix (not_zero _ (sym c.if-is_empty.ensures))) r may

pub returns-in-Shaking-clause-yes : goal.returns-in-Shaking-clause-yes
returns-in-Shaking-clause-yes c = λ e. absurd (false≢true e)

pub returns-in-Shaking-clause-due : goal.returns-in-Shaking-clause-due
returns-in-Shaking-clause-due c = λ e. absurd (false≢true e)
