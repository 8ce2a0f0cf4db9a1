use Rattle.std.proofs.Common.{ap, sym, ◌∙◌, Some}
use Rattle.endpoint_book.specs.WaitLists.{list_at}
use Rattle.endpoint_book.proofs.ListsLemmas.{list_at-found}
use Rattle.endpoint_book.proofs.wait_lists.WaitLists.has_none.Goals as goal

pub returns-in-Some : goal.returns-in-Some
returns-in-Some c = λ empty.
    sym (list_at-found c.args.line.now c.self.inside.lists.entries (Some c.in-Some.list.now) c.in-Some.ensures.value ∙ ap (λ l. list_at l c.args.line.now) c.self.view_is)
    ∙ c.is_bare.ensures empty
