use Rattle.std.specs.Prelude.{ℕ}
use Rattle.std.proofs.Common.{ap, ◌∙◌}
use Rattle.ctl_state.specs.declared.detail.Detail.{Detail}
use Rattle.spec_control.specs.Rows.{obj}
use Rattle.spec_control.specs.After.{kind_of}
use Rattle.ctl_moves.proofs.PlugLemmas.{plug_heard}
use Rattle.ctl_moves.proofs.plugging.hold.Goals as goal

pub returns-in-Ok-clause-heard : goal.returns-in-Ok-clause-heard
returns-in-Ok-clause-heard g c = λ d stands.
    plug_heard c.args.state.now d c.args.o (g.H.Holder.holding c.args.holder.now) (g.H.Holder.holding c.plug.new.self) c.kind_of-kind.result c.in-Some.detail.now.options stands
    (c.kind_of-kind.ensures d stands ∙ ap (λ (n : ℕ). kind_of (obj d.rows n).kind) (c.owner_in.ensures d stands))
    (ap (λ (x : Detail). x.options) c.in-Some.ensures.some) c.in-Ok.ensures.heard
