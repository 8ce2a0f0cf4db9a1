use Rattle.std.specs.Prelude.{Option, ℕ, false, is_some, nat_eq, position}
use Rattle.std.specs.Map.{lookup}
use Rattle.std.specs.Option.{option_map_or}
use Rattle.std.proofs.Common.{ap, sym, ◌∙◌}
use Rattle.ctl_state.specs.Holds.{seeks}
use Rattle.ctl_state.specs.Marks.{HoldRows}
use Rattle.ctl_state.proofs.HoldLemmas.{is_placed}
use Rattle.ctl_state.proofs.MarkLemmas.{any_other}
use Rattle.ctl_state.proofs.hold_table.HoldTable.has.Goals as goal

pub returns : goal.returns
returns c =
    let test = seeks c.args.sought c.args.to.now in
    c.is_some.ensures ∙ ap (λ (o : Option ℕ). is_some o) (c.place_sought.ensures ∙ ap (position test) c.as_slice.ensures)
    ∙ ap (λ (r : HoldRows). is_some (position test r.others)) c.self.view_is
    ∙ is_placed test c.args.self.now.others
    ∙ any_other c.args.sought c.args.to.now c.args.self.now
    (ap (λ (n : ℕ). option_map_or test (lookup (nat_eq n) c.args.self.now.firsts) false) (sym c.mark_of.ensures) ∙ sym c.if-is_first.ensures)
