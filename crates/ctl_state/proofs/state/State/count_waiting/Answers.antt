use Rattle.std.specs.Prelude.{List, filter, length}
use Rattle.std.proofs.Common.{ap, ◌∙◌}
use Rattle.spec_control.specs.declared.book.Waiting.{Waiting}
use Rattle.spec_control.specs.EndpointBook.{is_fulfilled}
use Rattle.ctl_state.proofs.state.State.count_waiting.Goals as goal

pub returns : goal.returns
returns g c = λ k h. c.count_waiting.ensures
    ∙ ap (λ (ws : List Waiting). length (filter (is_fulfilled c.args.at.now c.args.binding) ws)) h.names.same_waiting
