use Rattle.std.proofs.Common.{◌++◌, List, ℕ, ap, ◌∙◌}
use Rattle.zq_call.specs.HearText.{hear_text}
use Rattle.zq_call.proofs.hearing.tell.Goals as goal

pub push_heard-requires : goal.push_heard-requires
push_heard-requires c = record { hears = c.requires.hears }

pub returns : goal.returns
returns c = λ t k u.
    (c.of_vec.ensures ∙ c.in_ok-refused.ensures.text t k u ∙ ap (λ (l : List ℕ). l ++ hear_text t.opts t.means) c.new-text.ensures.items, c.in_ok-refused.ensures.refused t k u)
