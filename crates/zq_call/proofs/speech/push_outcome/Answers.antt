use Rattle.std.proofs.Common.{◌++◌, sym, ap, subst, ◌∙◌}
use Rattle.spec_zmtp.specs.DecodedStream.{Outcome}
use Rattle.zmtp_engine.specs.Answers.{Standing, standing_of}
use Rattle.zq_call.specs.HearText.{outcome_text, is_refused}
use Rattle.zq_call.specs.Told.{IsOpen}
use Rattle.zq_call.proofs.TellsLemmas.{refused_is}
use Rattle.zq_call.proofs.speech.push_outcome.Goals as goal

pub returns-in-Refused-clause-text : goal.returns-in-Refused-clause-text
returns-in-Refused-clause-text c = λ t k.
    c.in_ok-push_refusal-in-Refused.ensures
    ∙ ap (λ (o : Outcome). c.args.out.now.items ++ outcome_text o) (sym (refused_is t c.args.engine.now c.in-Refused.refusal (λ p d f now is. c.in-Refused.ensures.meaning p d f now is) k))

pub returns-in-Refused-clause-refused : goal.returns-in-Refused-clause-refused
returns-in-Refused-clause-refused c = λ t k.
    ap (λ (o : Outcome). is_refused o) (sym (refused_is t c.args.engine.now c.in-Refused.refusal (λ p d f now is. c.in-Refused.ensures.meaning p d f now is) k))

pub push_unfinished-requires : goal.push_unfinished-requires
push_unfinished-requires c = record { unrefused = subst (λ (x : Standing). IsOpen x) (sym (ap standing_of c.in-Shaking.is) ∙ c.state.ensures.state) tt }

pub push_unfinished-requires-in-Running : goal.push_unfinished-requires-in-Running
push_unfinished-requires-in-Running c = record { unrefused = subst (λ (x : Standing). IsOpen x) (sym (ap standing_of c.in-Running.is) ∙ c.state.ensures.state) tt }
