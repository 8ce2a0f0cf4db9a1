use Rattle.std.specs.Prelude.{List, [], ◌∷◌, ◌++◌, ℕ}
use Rattle.std.proofs.Common.{ap, sym, subst, ◌∙◌}
use Rattle.ctl_state.specs.declared.hold.Hold.{Hold}
use Rattle.ctl_state.specs.declared.hold_change.Change.TheVariants.{Comes}
use Rattle.ctl_state.specs.Listed.{Listed, with_last}
use Rattle.ctl_state.specs.Marks.{AreMarked, after_all}
use Rattle.ctl_state.proofs.MarkLemmas.{after_one, marked_more}
use Rattle.ctl_state.proofs.hold_list.HoldList.push.Goals as goal

pub invariant_of-self : goal.invariant_of-self
invariant_of-self c =
    subst (λ (hs : List Hold). AreMarked hs c.push.new.self) (sym (after_one c.self.inside.past.items c.and-self-inside.result.items (c.args.hold.at, Comes c.args.hold.held) c.and-self-inside.ensures))
    (marked_more c.args.hold (after_all [] c.self.inside.past.items) c.self.inside.table c.push.new.self c.self.invariant c.push.ensures)

pub returns : goal.returns
returns c =
    ap (λ (hs : List Hold). let l : Listed Hold = record { items = hs; spare = c.push.new.self.spare } in l) (after_one c.self.inside.past.items c.and-self-inside.result.items (c.args.hold.at, Comes c.args.hold.held) c.and-self-inside.ensures)
    ∙ ap (λ (n : ℕ). let l : Listed Hold = record { items = after_all [] c.self.inside.past.items ++ c.args.hold ∷ []; spare = n } in l) c.push.ensures.spare
    ∙ ap (with_last c.args.hold) c.self.view_is
