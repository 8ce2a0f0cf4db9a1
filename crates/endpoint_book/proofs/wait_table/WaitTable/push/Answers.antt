use Rattle.std.proofs.Common.{ap, sym, subst, ◌∙◌, List, [], ◌++◌, ◌∷◌}
use Rattle.zq_base.specs.declared.endpoint.Endpoint.{Endpoint}
use Rattle.spec_control.specs.declared.book.Waiting.{Waiting}
use Rattle.endpoint_book.specs.WaitLists.{AreLists, Sets, after_all, line_of, list_at}
use Rattle.endpoint_book.specs.NotedWaits.{AreWaitsNoted}
use Rattle.endpoint_book.specs.declared.change.Change.TheVariants.{Waits}
use Rattle.endpoint_book.proofs.OrderLemmas.{AreLists-more, after_one}
use Rattle.endpoint_book.proofs.NotedLemmas.{AreWaitsNoted-more}
use Rattle.endpoint_book.proofs.wait_table.WaitTable.push.Goals as goal

pub invariant_of-self-2 : goal.invariant_of-self-2
invariant_of-self-2 c =
    let at = c.args.at.now in
    let waits = after_all [] c.self.inside.past.items in
    let wait : Endpoint → Waiting = λ e. record { at = e; waiter = c.args.waiter; kind = c.args.kind } in
    let after = after_one c.self.inside.past.items c.and-self-inside.result.items (at, Waits c.args.waiter c.args.kind) c.and-self-inside.ensures in (
      subst (λ ws. AreLists ws c.push.new.self) (sym after)
          (AreLists-more (wait at) waits c.self.inside.lists c.push.new.self c.self.invariant.0
          (subst (λ e. Sets (line_of at) (list_at c.self.inside.lists (line_of at) ++ wait e ∷ []) c.self.inside.lists c.push.new.self) c.in_ok-kept.ensures c.in_ok-push.ensures.ok)),
      subst (λ ws. AreWaitsNoted ws c.note.new.self.sets) (sym after)
          (AreWaitsNoted-more waits (wait at) c.in_ok-line.line c.self.inside.owned.sets c.note.new.self.sets c.in_ok-line.ensures c.in_ok-note.ensures.ok c.self.invariant.1),
    )

pub returns-clause-ok : goal.returns-clause-ok
returns-clause-ok c =
    after_one c.self.inside.past.items c.and-self-inside.result.items (c.args.at.now, Waits c.args.waiter c.args.kind) c.and-self-inside.ensures
    ∙ ap (λ (ws : List Waiting). ws ++ record { at = c.args.at.now; waiter = c.args.waiter; kind = c.args.kind } ∷ []) c.self.view_is
