use Rattle.std.specs.Prelude.{refl}
use Rattle.std.proofs.Common.{ap, ◌∙◌}
use Rattle.spec_control.specs.Hold.{fulfil}
use Rattle.ctl_state.specs.declared.belongings.Belongings.{Belongings}
use Rattle.ctl_state.specs.Objects.{ObjectRows}
use Rattle.ctl_state.specs.Lists.{belongings_at, no_belongings, with_joined}
use Rattle.ctl_state.proofs.HoldLemmas.{joined_in}
use Rattle.ctl_state.proofs.ListedLemmas.{held_changed}
use Rattle.ctl_state.proofs.ReadLemmas.{read_kept}
use Rattle.ctl_state.proofs.StandLemmas.{lists_stand}
use Rattle.ctl_state.proofs.state.State.fulfil.Goals as goal

pub returns-clause-stands : goal.returns-clause-stands
returns-clause-stands g c = λ k h.
    lists_stand c.args.self.now _ _ _ c.hold_joins.ensures refl refl refl refl k
    (held_changed c.args.self.now.objects.lists k.rows.pairs k.attached k.holds h.lists (with_joined c.args.at.now c.args.pair) c.args.id.0 _ refl
    (joined_in c.args.at.now c.args.pair (belongings_at c.args.self.now.objects.lists c.args.id.0).holds.items ∙ ap (fulfil c.args.at.now c.args.pair.0) (h.lists.held c.args.id.0))) h

pub returns-clause-ends : goal.returns-clause-ends
returns-clause-ends g c = λ i.
    let lists = c.args.self.now.objects.lists in
    let mine = belongings_at lists c.args.id.0 in
    ap (λ (x : ObjectRows). (belongings_at x.lists i).ends) c.hold_joins.ensures
    ∙ read_kept (λ (b : Belongings). b.ends) lists c.args.id.0 i (record mine { holds = with_joined c.args.at.now c.args.pair mine.holds }) no_belongings refl
