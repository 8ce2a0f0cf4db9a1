use Rattle.std.proofs.Common.{◌≡◌, ℕ, nat_eq, false, ap, sym, subst, ◌∙◌}
use Rattle.spec_link.specs.Topics.{Topics}
use Rattle.spec_link.proofs.ShortLemmas.{left_some}
use Rattle.std.specs.Prelude.{option_map}
use Rattle.spec_link.proofs.topics.LinkTopics.is_left.Goals as goal

pub returns-in-Some : goal.returns-in-Some
returns-in-Some c =
    left_some c.args.self.now.again c.in-Some.messages.items (ap (λ (v : Topics). v.again) (sym c.self.view_is) ∙ ap (λ o. option_map (λ q. q.items) o) c.in-Some.is) (subst (λ (n : ℕ). nat_eq n 0 ≡ false) c.in-Some.messages.ok.0 (sym c.if-is_empty.ensures))
