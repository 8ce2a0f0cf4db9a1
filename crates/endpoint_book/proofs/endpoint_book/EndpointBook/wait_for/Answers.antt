use Rattle.std.specs.Prelude.{◌≡◌, ◌++◌, ◌∷◌, [], List}
use Rattle.std.proofs.Common.{ap, ◌∙◌}
use Rattle.std.proofs.lemmas.Result.{on_ok_weaker, on_err_weaker}
use Rattle.spec_control.specs.declared.book.Waiting.{Waiting}
use Rattle.spec_control.specs.EndpointBook.{Book, with_waiting}
use Rattle.endpoint_book.proofs.endpoint_book.EndpointBook.wait_for.Goals as goal

pub returns-clause-ok : goal.returns-clause-ok
returns-clause-ok c =
    let wait : Waiting = record { at = c.args.at.now; waiter = c.args.waiter; kind = c.args.kind } in
    on_ok_weaker c.push.result (λ (pushed : c.push.new.self ≡ c.self.inside.waits ++ wait ∷ []). ap (λ (w : List Waiting). let b : Book = record { names = c.self.inside.names; addresses = c.self.inside.addresses; waiting = w } in b) pushed ∙ ap (λ (b : Book). with_waiting (b.waiting ++ wait ∷ []) b) c.self.view_is) c.push.ensures.ok

pub returns-clause-err : goal.returns-clause-err
returns-clause-err c = on_err_weaker c.push.result (λ (same : c.push.new.self ≡ c.self.inside.waits). ap (λ (w : List Waiting). let b : Book = record { names = c.self.inside.names; addresses = c.self.inside.addresses; waiting = w } in b) same ∙ c.self.view_is) c.push.ensures.err
