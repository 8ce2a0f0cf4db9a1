use Rattle.std.proofs.Common.{List, ap, sym, ◌∙◌}
use Rattle.spec_control.specs.declared.book.Waiting.{Waiting}
use Rattle.spec_control.specs.EndpointBook.{Book, is_connect_of}
use Rattle.endpoint_book.proofs.OrderLemmas.{first_none}
use Rattle.endpoint_book.proofs.endpoint_book.EndpointBook.take_back.Goals as goal

pub returns-then-not-take_first-clause-err : goal.returns-then-not-take_first-clause-err
returns-then-not-take_first-clause-err c =
    let book : List Waiting → Book = λ waits. record { names = c.self.inside.names; addresses = c.self.inside.addresses; waiting = waits } in
    ap book (c.take_first.ensures.takes ∙ first_none (is_connect_of c.args.waiter c.args.at.now) c.self.inside.waits (sym c.take_first.ensures.waits ∙ c.if-not-take_first.true))
    ∙ c.self.view_is
