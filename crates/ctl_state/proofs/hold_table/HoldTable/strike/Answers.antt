use Rattle.std.specs.Prelude.{ℕ, false, nat_eq, refl}
use Rattle.std.specs.Map.{lookup}
use Rattle.std.specs.Option.{option_map_or}
use Rattle.std.proofs.Common.{ap, sym, subst, ◌∙◌}
use Rattle.spec_control.specs.EndpointBook.{without_first}
use Rattle.ctl_state.specs.Holds.{seeks}
use Rattle.ctl_state.specs.Marks.{HoldRows, Puts, at_mark, mark_of, with_others}
use Rattle.ctl_state.proofs.MarkLemmas.{found_other, puts_struck}
use Rattle.ctl_state.proofs.hold_table.HoldTable.strike.Goals as goal

pub returns-clause-found : goal.returns-clause-found
returns-clause-found c =
    let test = seeks c.args.sought c.args.to.now in
    c.strike_other.ensures.found ∙ found_other c.args.sought c.args.to.now c.args.self.now
    (ap (λ (n : ℕ). option_map_or test (lookup (nat_eq n) c.args.self.now.firsts) false) (sym c.mark_of-mark.ensures) ∙ sym c.if-is_first.ensures)

pub returns-clause-rest : goal.returns-clause-rest
returns-clause-rest c =
    let to = c.args.to.now in
    let test = seeks c.args.sought to in
    let old = c.args.self.now in
    subst (λ (r : HoldRows). Puts (mark_of to) (without_first test (at_mark old (mark_of to))) old r) (sym c.strike_other.ensures.rest)
    (puts_struck c.args.sought to old (with_others (without_first test old.others) old) refl refl refl
    (ap (λ (n : ℕ). option_map_or test (lookup (nat_eq n) old.firsts) false) (sym c.mark_of-mark.ensures) ∙ sym c.if-is_first.ensures))
