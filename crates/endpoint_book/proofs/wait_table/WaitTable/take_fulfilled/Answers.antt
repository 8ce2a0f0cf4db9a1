use Rattle.std.proofs.Common.{ap, sym, subst, ◌∙◌, not, filter, []}
use Rattle.spec_control.specs.EndpointBook.{is_fulfilled}
use Rattle.endpoint_book.specs.WaitLists.{AreLists, after_all, line_of}
use Rattle.endpoint_book.specs.NotedWaits.{AreWaitsNoted}
use Rattle.endpoint_book.specs.declared.change.Change.TheVariants.{Bound}
use Rattle.endpoint_book.proofs.OrderLemmas.{AreLists-without, fulfilled_there, after_one}
use Rattle.endpoint_book.proofs.NotedLemmas.{AreWaitsNoted-fulfilled}
use Rattle.endpoint_book.proofs.wait_table.WaitTable.take_fulfilled.Goals as goal

pub invariant_of-self : goal.invariant_of-self
invariant_of-self c =
    let at = c.args.at.now in
    let waits = after_all [] c.self.inside.past.items in
    let after = after_one c.self.inside.past.items c.and-self-inside.result.items (at, Bound c.args.binding) c.and-self-inside.ensures in (
      subst (λ ws. AreLists ws c.take_fulfilled.new.self) (sym after)
          (AreLists-without (is_fulfilled at c.args.binding) (line_of at) waits c.self.inside.lists c.take_fulfilled.new.self
          (fulfilled_there at c.args.binding) c.self.invariant.0 c.take_fulfilled.ensures),
      subst (λ ws. AreWaitsNoted ws c.strike_fulfilled.new.owned.sets) (sym after)
          (AreWaitsNoted-fulfilled at c.args.binding waits c.self.inside.lists c.self.inside.owned.sets c.strike_fulfilled.new.owned.sets
          c.self.invariant.0 c.strike_fulfilled.ensures c.self.invariant.1),
    )

pub returns : goal.returns
returns c =
    after_one c.self.inside.past.items c.and-self-inside.result.items (c.args.at.now, Bound c.args.binding) c.and-self-inside.ensures
    ∙ ap (filter (λ w. not (is_fulfilled c.args.at.now c.args.binding w))) c.self.view_is
