use Rattle.std.proofs.Common.{ap, ◌∙◌, filter, length, Some, None}
use Rattle.spec_control.specs.EndpointBook.{is_fulfilled}
use Rattle.endpoint_book.proofs.OrderLemmas.{fulfilled-found}
use Rattle.endpoint_book.proofs.wait_table.WaitTable.count.Goals as goal

pub returns-in-Some : goal.returns-in-Some
returns-in-Some c =
    c.count_in.ensures
    ∙ ap length (fulfilled-found c.args.at.now c.args.binding _ c.self.inside.lists c.self.invariant.0 (Some c.in-Some.list.now.items) c.in-Some.ensures
    ∙ ap (filter (is_fulfilled c.args.at.now c.args.binding)) c.self.view_is)

pub returns-in-None : goal.returns-in-None
returns-in-None c =
    ap length (fulfilled-found c.args.at.now c.args.binding _ c.self.inside.lists c.self.invariant.0 None c.in-None.ensures
    ∙ ap (filter (is_fulfilled c.args.at.now c.args.binding)) c.self.view_is)
