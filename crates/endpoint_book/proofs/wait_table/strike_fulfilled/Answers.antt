use Rattle.std.proofs.Common.{List, [], Option, ap, sym, ◌∙◌}
use Rattle.std.specs.List.{list_all}
use Rattle.std.specs.Option.{unwrap_or}
use Rattle.spec_control.specs.declared.book.Waiting.{Waiting}
use Rattle.spec_control.specs.EndpointBook.{is_fulfilled}
use Rattle.endpoint_book.specs.WaitLists.{line_of}
use Rattle.endpoint_book.proofs.NotedLemmas.{KeepsUnfulfilled-all}
use Rattle.endpoint_book.proofs.wait_table.strike_fulfilled.Goals as goal

pub returns-then-are_fulfilled : goal.returns-then-are_fulfilled
returns-then-are_fulfilled c =
    let line = line_of c.args.at.now in
    KeepsUnfulfilled-all c.args.at.now c.args.binding line c.args.lists.now c.args.owned.now.sets c.strike_each.new.owned.sets
    (ap (λ (found : Option (List Waiting)). list_all (is_fulfilled c.args.at.now c.args.binding) (unwrap_or found [])) (sym c.in-Some.ensures)
    ∙ sym c.are_fulfilled.ensures ∙ c.if-are_fulfilled.true)
    c.strike_each.ensures
