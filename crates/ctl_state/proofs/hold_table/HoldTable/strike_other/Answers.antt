use Rattle.std.specs.Prelude.{List, filter, find, position}
use Rattle.std.proofs.Common.{ap, sym, ◌∙◌}
use Rattle.endpoint_book.proofs.OrderLemmas.{first_none}
use Rattle.endpoint_book.proofs.WaitingLemmas.{none_found, remove-position}
use Rattle.spec_control.specs.EndpointBook.{without_first}
use Rattle.ctl_state.specs.declared.hold.Hold.{Hold}
use Rattle.ctl_state.specs.Holds.{seeks}
use Rattle.ctl_state.specs.Listed.{Listed}
use Rattle.ctl_state.specs.Marks.{HoldRows, has_mark, with_others}
use Rattle.ctl_state.proofs.HoldLemmas.{found_there, found_none}
use Rattle.ctl_state.proofs.MarkLemmas.{none_left}
use Rattle.ctl_state.proofs.hold_table.HoldTable.strike_other.Goals as goal

pub invariant_of-self : goal.invariant_of-self
invariant_of-self c =
    let test = seeks c.args.sought c.args.to.now in
    let items = c.self.inside.others.items in
    let here = c.in-Some.ensures ∙ ap (position test) c.as_slice.ensures in (
      λ m none. ap (λ (l : Listed Hold). filter (has_mark m) l.items) c.remove.ensures.rest
          ∙ ap (filter (has_mark m)) (remove-position test items c.in-Some.place here)
          ∙ none_left test (has_mark m) items (c.self.invariant.0 m none),
      rw c.remove.ensures.rest c.self.invariant.1,
    )

pub returns-in-Some-clause-found : goal.returns-in-Some-clause-found
returns-in-Some-clause-found c =
    let test = seeks c.args.sought c.args.to.now in
    found_there test c.self.inside.others.items c.in-Some.place c.remove.result (c.in-Some.ensures ∙ ap (position test) c.as_slice.ensures) c.remove.ensures.value
    ∙ ap (λ (r : HoldRows). find test r.others) c.self.view_is

pub returns-in-Some-clause-rest : goal.returns-in-Some-clause-rest
returns-in-Some-clause-rest c =
    let test = seeks c.args.sought c.args.to.now in
    let rows : List Hold → HoldRows = λ hs. record { firsts = c.self.inside.firsts.entries; others = hs; spare = c.self.inside.others.spare } in
    ap (λ (l : Listed Hold). let r : HoldRows = record { firsts = c.self.inside.firsts.entries; others = l.items; spare = l.spare } in r) c.remove.ensures.rest
    ∙ ap rows (remove-position test c.self.inside.others.items c.in-Some.place (c.in-Some.ensures ∙ ap (position test) c.as_slice.ensures))
    ∙ ap (λ (r : HoldRows). with_others (without_first test r.others) r) c.self.view_is

pub returns-in-None-clause-found : goal.returns-in-None-clause-found
returns-in-None-clause-found c =
    let test = seeks c.args.sought c.args.to.now in
    found_none test c.self.inside.others.items (c.in-None.ensures ∙ ap (position test) c.as_slice.ensures)
    ∙ ap (λ (r : HoldRows). find test r.others) c.self.view_is

pub returns-in-None-clause-rest : goal.returns-in-None-clause-rest
returns-in-None-clause-rest c =
    let test = seeks c.args.sought c.args.to.now in
    let none = none_found test c.args.self.now.others (c.in-None.ensures ∙ ap (position test) c.as_slice.ensures ∙ ap (λ (r : HoldRows). position test r.others) c.self.view_is) in
    ap (λ (hs : List Hold). with_others hs c.args.self.now) (sym (first_none test c.args.self.now.others none))
