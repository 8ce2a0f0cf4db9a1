use Rattle.std.proofs.Common.{◌≡◌, ◌++◌, sym, ap, ◌∙◌}
use Rattle.spec_zmtp.specs.DecodedStream.{Outcome, Unfinished}
use Rattle.zq_call.specs.HearText.{outcome_text, is_refused}
use Rattle.zq_call.specs.Told.{Told, Tells}
use Rattle.zq_call.proofs.TellsLemmas.{unfinished_is}
use Rattle.zq_call.proofs.speech.push_unfinished.Goals as goal

pub returns : goal.returns
returns c =
    let open_at : (t : Told) → Tells t c.args.engine.now → t.means.outcome ≡ Unfinished c.rest.result = λ t k.
    unfinished_is t c.args.engine.now c.rest.result c.requires.unrefused (λ p d f now is n e. c.rest.ensures.meaning p d f now is n e) k in
    record {
      text = λ t k. c.in_ok-push_rest.ensures ∙ ap (λ (o : Outcome). c.args.out.now.items ++ outcome_text o) (sym (open_at t k));
      refused = λ t k. ap (λ (o : Outcome). is_refused o) (sym (open_at t k));
    }
