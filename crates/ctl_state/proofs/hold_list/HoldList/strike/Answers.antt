use Rattle.std.specs.Prelude.{List, [], ℕ, find}
use Rattle.std.proofs.Common.{ap, sym, subst, ◌∙◌}
use Rattle.spec_control.specs.EndpointBook.{without_first}
use Rattle.ctl_state.specs.declared.hold.Hold.{Hold}
use Rattle.ctl_state.specs.declared.hold_change.Change.TheVariants.{Goes}
use Rattle.ctl_state.specs.Holds.{seeks, without_sought}
use Rattle.ctl_state.specs.Listed.{Listed}
use Rattle.ctl_state.specs.Marks.{AreMarked, after_all}
use Rattle.ctl_state.proofs.MarkLemmas.{after_one, found_marked, marked_struck}
use Rattle.ctl_state.proofs.hold_list.HoldList.strike.Goals as goal

pub invariant_of-self : goal.invariant_of-self
invariant_of-self c =
    subst (λ (hs : List Hold). AreMarked hs c.strike-struck.new.self) (sym (after_one c.self.inside.past.items c.and-self-inside.result.items (c.args.to.now, Goes c.args.sought) c.and-self-inside.ensures))
    (marked_struck c.args.sought c.args.to.now (after_all [] c.self.inside.past.items) c.self.inside.table c.strike-struck.new.self c.self.invariant c.strike-struck.ensures.rest)

pub returns-clause-found : goal.returns-clause-found
returns-clause-found c =
    c.strike-struck.ensures.found
    ∙ found_marked c.args.sought c.args.to.now (after_all [] c.self.inside.past.items) c.self.inside.table c.self.invariant
    ∙ ap (λ (l : Listed Hold). find (seeks c.args.sought c.args.to.now) l.items) c.self.view_is

pub returns-clause-rest : goal.returns-clause-rest
returns-clause-rest c =
    ap (λ (hs : List Hold). let l : Listed Hold = record { items = hs; spare = c.strike-struck.new.self.spare } in l) (after_one c.self.inside.past.items c.and-self-inside.result.items (c.args.to.now, Goes c.args.sought) c.and-self-inside.ensures)
    ∙ ap (λ (n : ℕ). let l : Listed Hold = record { items = without_first (seeks c.args.sought c.args.to.now) (after_all [] c.self.inside.past.items); spare = n } in l) c.strike-struck.ensures.rest.spare
    ∙ ap (without_sought c.args.sought c.args.to.now) c.self.view_is
