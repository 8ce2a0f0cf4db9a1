use Rattle.std.specs.Prelude.{find, option_map, refl}
use Rattle.std.proofs.Common.{ap, sym, ◌∙◌}
use Rattle.spec_control.specs.EndpointBook.{without_first}
use Rattle.spec_control.specs.Hold.{is_connect_to}
use Rattle.ctl_state.specs.declared.belongings.Belongings.{Belongings}
use Rattle.ctl_state.specs.declared.hold.Sought.TheVariants.{Connect}
use Rattle.ctl_state.specs.Objects.{ObjectRows}
use Rattle.ctl_state.specs.Lists.{belongings_at, hold_of, no_belongings, without_sought}
use Rattle.ctl_state.proofs.HoldLemmas.{found_in, struck_in}
use Rattle.ctl_state.proofs.ListedLemmas.{held_changed}
use Rattle.ctl_state.proofs.ReadLemmas.{read_kept}
use Rattle.ctl_state.proofs.StandLemmas.{lists_stand}
use Rattle.ctl_state.proofs.state.State.strike_connect.Goals as goal

pub returns-clause-found : goal.returns-clause-found
returns-clause-found g c = λ k h.
    ap (option_map hold_of) c.hold_goes.ensures.value
    ∙ sym (found_in (is_connect_to c.args.to.now) (belongings_at c.args.self.now.objects.lists c.args.id.0).holds.items)
    ∙ ap (find (is_connect_to c.args.to.now)) (h.lists.held c.args.id.0)

pub returns-clause-stands : goal.returns-clause-stands
returns-clause-stands g c = λ k h.
    lists_stand c.args.self.now _ _ _ c.hold_goes.ensures.rest refl refl refl refl k
    (held_changed c.args.self.now.objects.lists k.rows.pairs k.attached k.holds h.lists (without_sought Connect c.args.to.now) c.args.id.0 _ refl
    (sym (struck_in (is_connect_to c.args.to.now) (belongings_at c.args.self.now.objects.lists c.args.id.0).holds.items) ∙ ap (without_first (is_connect_to c.args.to.now)) (h.lists.held c.args.id.0))) h

pub returns-clause-ends : goal.returns-clause-ends
returns-clause-ends g c = λ i.
    let lists = c.args.self.now.objects.lists in
    let mine = belongings_at lists c.args.id.0 in
    ap (λ (x : ObjectRows). (belongings_at x.lists i).ends) c.hold_goes.ensures.rest
    ∙ read_kept (λ (b : Belongings). b.ends) lists c.args.id.0 i (record mine { holds = without_sought Connect c.args.to.now mine.holds }) no_belongings refl
