use Rattle.std.proofs.Common.{◌≡◌, ◌++◌, List, ℕ, ap, subst, sym, ◌∙◌}
use Rattle.spec_zmtp.specs.DecodedStream.{octets_said}
use Rattle.zq_call.specs.HearText.{said_text}
use Rattle.zq_call.specs.Told.{Tells, with_written}
use Rattle.zq_call.proofs.hearing.push_all_said.Goals as goal

pub returns-clause-text : goal.returns-clause-text
returns-clause-text c = λ t k none.
    let said : c.in_ok-said.said.items ≡ octets_said t.opts t.means = ap (λ (l : List ℕ). l ++ c.in_ok-said.said.items) (sym none) ∙ c.in_ok-said.ensures.all t k in
    c.in_ok-push_said.ensures ∙ ap (λ (l : List ℕ). c.args.out.now.items ++ said_text l) (c.as_slice.ensures.value ∙ said)

pub returns-clause-tells : goal.returns-clause-tells
returns-clause-tells c = λ t k none.
    let said : c.in_ok-said.said.items ≡ octets_said t.opts t.means = ap (λ (l : List ℕ). l ++ c.in_ok-said.said.items) (sym none) ∙ c.in_ok-said.ensures.all t k in
    subst (λ (l : List ℕ). Tells (with_written l t) c.take_said.new.engine) said (c.in_ok-said.ensures.tells t k)
