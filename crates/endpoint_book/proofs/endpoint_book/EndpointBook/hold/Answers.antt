use Rattle.std.specs.Prelude.{◌≡◌, ℕ, List}
use Rattle.std.specs.FinMap as finite
use Rattle.std.proofs.Common.{ap, sym, ◌∙◌}
use Rattle.std.proofs.lemmas.Result.{on_ok_weaker, on_err_weaker}
use Rattle.zq_base.specs.declared.endpoint.Endpoint.{Endpoint}
use Rattle.spec_control.specs.EndpointBook.{Book, Names, numbers_of, with_name}
use Rattle.endpoint_book.proofs.endpoint_book.EndpointBook.hold.Goals as goal

pub returns-in-Inproc-clause-ok : goal.returns-in-Inproc-clause-ok
returns-in-Inproc-clause-ok c =
    on_ok_weaker c.hold.result (λ (held : c.hold.new.self ≡ finite.insert c.self.inside.names c.as_slice.result.now c.args.binding).
    ap (λ (n : Names). let b : Book = record { names = n; addresses = c.self.inside.addresses; waiting = c.self.inside.waits } in b) (held ∙ ap (λ (q : List ℕ). finite.insert c.self.inside.names q c.args.binding) c.as_slice.ensures)
    ∙ ap (λ (e : Endpoint). with_name e c.args.binding (record { names = c.self.inside.names; addresses = c.self.inside.addresses; waiting = c.self.inside.waits })) (sym c.in-Inproc.is)
    ∙ ap (with_name c.args.at.now c.args.binding) c.self.view_is) c.hold.ensures.ok

pub returns-in-Inproc-clause-err : goal.returns-in-Inproc-clause-err
returns-in-Inproc-clause-err c = on_err_weaker c.hold.result (λ (same : c.hold.new.self ≡ c.self.inside.names). ap (λ (n : Names). let b : Book = record { names = n; addresses = c.self.inside.addresses; waiting = c.self.inside.waits } in b) same ∙ c.self.view_is) c.hold.ensures.err

pub returns-in-Tcp-clause-ok : goal.returns-in-Tcp-clause-ok
returns-in-Tcp-clause-ok c =
    on_ok_weaker c.hold-in-Tcp.result (λ (held : c.hold-in-Tcp.new.self ≡ finite.insert c.self.inside.addresses (numbers_of c.in-Tcp.address) c.args.binding).
    ap (λ (n : Names). let b : Book = record { names = c.self.inside.names; addresses = n; waiting = c.self.inside.waits } in b) held
    ∙ ap (λ (e : Endpoint). with_name e c.args.binding (record { names = c.self.inside.names; addresses = c.self.inside.addresses; waiting = c.self.inside.waits })) (sym c.in-Tcp.is)
    ∙ ap (with_name c.args.at.now c.args.binding) c.self.view_is) c.hold-in-Tcp.ensures.ok

pub returns-in-Tcp-clause-err : goal.returns-in-Tcp-clause-err
returns-in-Tcp-clause-err c = on_err_weaker c.hold-in-Tcp.result (λ (same : c.hold-in-Tcp.new.self ≡ c.self.inside.addresses). ap (λ (n : Names). let b : Book = record { names = c.self.inside.names; addresses = n; waiting = c.self.inside.waits } in b) same ∙ c.self.view_is) c.hold-in-Tcp.ensures.err
