use Rattle.std.specs.Prelude.{List, [], ℕ}
use Rattle.std.proofs.Common.{ap, sym, subst, ◌∙◌}
use Rattle.ctl_state.specs.declared.hold.Hold.{Hold}
use Rattle.ctl_state.specs.declared.hold_change.Change.TheVariants.{Joins}
use Rattle.ctl_state.specs.Holds.{joined_first, with_joined}
use Rattle.ctl_state.specs.Listed.{Listed}
use Rattle.ctl_state.specs.Marks.{AreMarked, after_all}
use Rattle.ctl_state.proofs.MarkLemmas.{after_one, marked_joined}
use Rattle.ctl_state.proofs.hold_list.HoldList.join.Goals as goal

pub invariant_of-self : goal.invariant_of-self
invariant_of-self c =
    subst (λ (hs : List Hold). AreMarked hs c.join.new.self) (sym (after_one c.self.inside.past.items c.and-self-inside.result.items (c.args.at.now, Joins c.args.pair) c.and-self-inside.ensures))
    (marked_joined c.args.at.now c.args.pair (after_all [] c.self.inside.past.items) c.self.inside.table c.join.new.self c.self.invariant c.join.ensures)

pub returns : goal.returns
returns c =
    ap (λ (hs : List Hold). let l : Listed Hold = record { items = hs; spare = c.join.new.self.spare } in l) (after_one c.self.inside.past.items c.and-self-inside.result.items (c.args.at.now, Joins c.args.pair) c.and-self-inside.ensures)
    ∙ ap (λ (n : ℕ). let l : Listed Hold = record { items = joined_first c.args.at.now c.args.pair (after_all [] c.self.inside.past.items); spare = n } in l) c.join.ensures.spare
    ∙ ap (with_joined c.args.at.now c.args.pair) c.self.view_is
