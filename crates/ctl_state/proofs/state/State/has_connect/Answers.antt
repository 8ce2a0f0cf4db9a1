use Rattle.std.specs.Prelude.{find, is_some}
use Rattle.std.proofs.Common.{ap, ◌∙◌}
use Rattle.spec_control.specs.Hold.{is_connect_to}
use Rattle.ctl_state.specs.Lists.{belongings_at}
use Rattle.ctl_state.proofs.HoldLemmas.{any_in}
use Rattle.ctl_state.proofs.state.State.has_connect.Goals as goal

pub returns : goal.returns
returns g c = λ k h.
    c.has_hold.ensures
    ∙ any_in (is_connect_to c.args.to.now) (belongings_at c.args.self.now.objects.lists c.args.id.0).holds.items
    ∙ ap (λ hs. is_some (find (is_connect_to c.args.to.now) hs)) (h.lists.held c.args.id.0)
