use Rattle.std.specs.Prelude.{List, filter}
use Rattle.std.proofs.Common.{ap, ◌∙◌}
use Rattle.spec_control.specs.declared.book.Waiting.{Waiting}
use Rattle.spec_control.specs.EndpointBook.{is_fulfilled, waiters}
use Rattle.ctl_state.proofs.RegisterLemmas.{if_ok}
use Rattle.ctl_state.proofs.state.State.waiting.Goals as goal

pub returns : goal.returns
returns g c = if_ok c.waiting.result _ _ c.waiting.ensures
    (λ v is k h. is ∙ ap (λ (ws : List Waiting). waiters (filter (is_fulfilled c.args.at.now c.args.binding) ws)) h.names.same_waiting)
