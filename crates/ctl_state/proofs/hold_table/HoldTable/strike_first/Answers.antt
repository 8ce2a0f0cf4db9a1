use Rattle.std.specs.Prelude.{◌≤◌, ℕ, filter, position}
use Rattle.std.proofs.Common.{ap, arith, sym, subst, ◌∙◌}
use Rattle.endpoint_book.proofs.WaitingLemmas.{any_found, none_found, remove-position}
use Rattle.ctl_state.specs.declared.hold.Hold.{Hold}
use Rattle.ctl_state.specs.Listed.{Listed}
use Rattle.ctl_state.specs.Marks.{HoldRows, Puts, has_mark}
use Rattle.ctl_state.proofs.HoldLemmas.{found_there}
use Rattle.ctl_state.proofs.MarkLemmas.{first_there, last_gone, none_before, none_left, puts_next}
use Rattle.ctl_state.proofs.hold_table.HoldTable.strike_first.Goals as goal

pub put_first-requires : goal.put_first-requires
put_first-requires c =
    let test = has_mark c.args.mark in
    record {
      there = first_there c.args.mark c.self.inside.firsts.entries c.self.inside.others.items c.self.invariant.0
          (any_found test c.self.inside.others.items c.in-Some.place (c.in-Some.ensures ∙ ap (position test) c.as_slice.ensures));
    }

pub invariant_of-self : goal.invariant_of-self
invariant_of-self c =
    let test = has_mark c.args.mark in
    let items = c.self.inside.others.items in (
      λ m none. ap (λ (l : Listed Hold). filter (has_mark m) l.items) c.remove-next.ensures.rest
          ∙ ap (filter (has_mark m)) (remove-position test items c.in-Some.place (c.in-Some.ensures ∙ ap (position test) c.as_slice.ensures))
          ∙ none_left test (has_mark m) items (c.self.invariant.0 m (none_before _ _ _ (sym (c.put_first.ensures.updates.0 m) ∙ none))),
      subst (λ (n : ℕ). c.remove-next.new.self.spare ≤ n) (sym c.put_first.ensures.spare) (rw c.remove-next.ensures.rest c.self.invariant.1),
    )

pub returns-in-Some-clause-rest : goal.returns-in-Some-clause-rest
returns-in-Some-clause-rest c =
    let test = has_mark c.args.mark in
    let items = c.self.inside.others.items in
    let here = c.in-Some.ensures ∙ ap (position test) c.as_slice.ensures in
    let new : HoldRows = record { firsts = c.put_first.new.firsts.entries; others = c.remove-next.new.self.items; spare = c.remove-next.new.self.spare } in
    subst (λ (o : HoldRows). Puts c.args.mark (filter test o.others) o new) c.self.view_is
    (puts_next c.args.mark c.remove-next.result (record { firsts = c.self.inside.firsts.entries; others = items; spare = c.self.inside.others.spare }) new
    c.put_first.ensures.updates.0
    (ap (λ (l : Listed Hold). l.items) c.remove-next.ensures.rest ∙ remove-position test items c.in-Some.place here)
    (ap (λ (l : Listed Hold). l.spare) c.remove-next.ensures.rest)
    (found_there test items c.in-Some.place c.remove-next.result here c.remove-next.ensures.value))

pub invariant_of-self-in-None : goal.invariant_of-self-in-None
invariant_of-self-in-None c =
    let test = has_mark c.args.mark in (
      last_gone c.args.mark c.self.inside.firsts.entries c.swap_remove.new.self.entries c.self.inside.others.items c.self.invariant.0
          (none_found test c.self.inside.others.items (c.in-None.ensures ∙ ap (position test) c.as_slice.ensures))
          c.swap_remove.ensures.updates.0,
      (let was = c.self.invariant.1 in let more = c.swap_remove.ensures.room.0 in omega (arith, was, more)),
    )
