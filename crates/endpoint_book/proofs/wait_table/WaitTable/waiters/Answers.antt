use Rattle.std.proofs.Common.{◌≡◌, ap, subst, ◌∙◌, filter, Some, None, List, IfOk}
use Rattle.spec_control.specs.declared.book.Waiting.{Waiting}
use Rattle.spec_control.specs.EndpointBook.{is_fulfilled, waiters}
use Rattle.endpoint_book.proofs.OrderLemmas.{fulfilled-found}
use Rattle.endpoint_book.proofs.wait_table.WaitTable.waiters.Goals as goal

pub returns-in-Some : goal.returns-in-Some
returns-in-Some c =
    subst (λ (ws : List Waiting). IfOk c.waiters_in.result (λ v. v.items ≡ waiters ws))
    (fulfilled-found c.args.at.now c.args.binding _ c.self.inside.lists c.self.invariant.0 (Some c.in-Some.list.now.items) c.in-Some.ensures
    ∙ ap (filter (is_fulfilled c.args.at.now c.args.binding)) c.self.view_is) c.waiters_in.ensures

pub returns-in-None : goal.returns-in-None
returns-in-None c =
    c.new.ensures.items
    ∙ ap waiters (fulfilled-found c.args.at.now c.args.binding _ c.self.inside.lists c.self.invariant.0 None c.in-None.ensures
    ∙ ap (filter (is_fulfilled c.args.at.now c.args.binding)) c.self.view_is)
