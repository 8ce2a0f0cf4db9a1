use Rattle.std.proofs.Common.{ap, sym, subst, ◌∙◌, not, filter, []}
use Rattle.spec_control.specs.EndpointBook.{is_waiter}
use Rattle.endpoint_book.specs.WaitLists.{AreLists, after_all}
use Rattle.endpoint_book.specs.NotedWaits.{AreWaitsNoted}
use Rattle.endpoint_book.specs.declared.change.Change.TheVariants.{Dropped}
use Rattle.endpoint_book.proofs.OrderLemmas.{AreLists-kept, after_one}
use Rattle.endpoint_book.proofs.NotedLemmas.{AreWaitsNoted-dropped, IsAmongLines-noted}
use Rattle.endpoint_book.proofs.wait_table.WaitTable.drop_object.Goals as goal

pub drop_noted-requires : goal.drop_noted-requires
drop_noted-requires c = IsAmongLines-noted c.args.object (after_all [] c.self.inside.past.items) c.self.inside.lists c.self.inside.owned.sets c.self.invariant.0 c.self.invariant.1

pub invariant_of-self : goal.invariant_of-self
invariant_of-self c =
    let waits = after_all [] c.self.inside.past.items in
    let after = after_one c.self.inside.past.items c.and-self-inside.result.items (_, Dropped c.args.object) c.and-self-inside.ensures in (
      subst (λ ws. AreLists ws c.drop_noted.new.lists) (sym after)
          (AreLists-kept c.args.object waits c.self.inside.lists c.drop_noted.new.lists c.self.invariant.0 c.drop_noted.ensures.dropped),
      subst (λ ws. AreWaitsNoted ws c.drop_noted.new.owned.sets) (sym after)
          (AreWaitsNoted-dropped c.args.object waits c.self.inside.owned.sets c.drop_noted.new.owned.sets c.drop_noted.ensures.left c.self.invariant.1),
    )

pub returns : goal.returns
returns c =
    after_one c.self.inside.past.items c.and-self-inside.result.items (_, Dropped c.args.object) c.and-self-inside.ensures
    ∙ ap (filter (λ w. not (is_waiter c.args.object w))) c.self.view_is
