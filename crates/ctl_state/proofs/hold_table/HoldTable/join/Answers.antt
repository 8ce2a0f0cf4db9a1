use Rattle.std.specs.Prelude.{ℕ, false, nat_eq, refl}
use Rattle.std.specs.Map.{lookup}
use Rattle.std.specs.Option.{option_map_or}
use Rattle.std.proofs.Common.{ap, sym, subst, ◌∙◌}
use Rattle.ctl_state.specs.declared.hold.Sought.TheVariants.{Waiting}
use Rattle.ctl_state.specs.Holds.{joined_first, seeks}
use Rattle.ctl_state.specs.Marks.{HoldRows, Puts, at_mark, mark_of, with_others}
use Rattle.ctl_state.proofs.MarkLemmas.{puts_joined}
use Rattle.ctl_state.proofs.hold_table.HoldTable.join.Goals as goal

pub returns : goal.returns
returns c =
    let at = c.args.at.now in
    let old = c.args.self.now in
    subst (λ (r : HoldRows). Puts (mark_of at) (joined_first at c.args.pair (at_mark old (mark_of at))) old r) (sym c.join_other.ensures)
    (puts_joined at c.args.pair old (with_others (joined_first at c.args.pair old.others) old) refl refl refl
    (ap (λ (n : ℕ). option_map_or (seeks Waiting at) (lookup (nat_eq n) old.firsts) false) (sym c.mark_of-mark.ensures) ∙ sym c.if-is_first.ensures))
