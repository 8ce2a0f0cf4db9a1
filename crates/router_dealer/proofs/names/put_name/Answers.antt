use Rattle.std.proofs.Common.{◌∙◌, ℕ, List, Some, ap, cond, nat_eq}
use Rattle.router_dealer.specs.NameTable.{name_at}
use Rattle.router_dealer.proofs.names.put_name.Goals as goal

pub returns-in-Ok-insert-clause-ok : goal.returns-in-Ok-insert-clause-ok
returns-in-Ok-insert-clause-ok c = λ p.
    c.in-Ok-insert.ensures.updates.0 p
    ∙ ap (λ (n : List ℕ). cond (nat_eq c.args.place p) (Some n) (name_at c.args.names.now.entries p)) c.in-Ok.ensures.ok
