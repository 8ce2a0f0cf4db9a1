use Rattle.std.proofs.Common.{ap, sym, subst, ◌∙◌, []}
use Rattle.std.specs.List.{list_any}
use Rattle.spec_control.specs.EndpointBook.{is_connect_of, without_first}
use Rattle.endpoint_book.specs.WaitLists.{AreLists, after_all, line_of, stands_at}
use Rattle.endpoint_book.specs.NotedWaits.{AreWaitsNoted}
use Rattle.endpoint_book.specs.declared.change.Change.TheVariants.{Back}
use Rattle.endpoint_book.proofs.OrderLemmas.{AreLists-first, any_within, connect_there, after_one}
use Rattle.endpoint_book.proofs.NotedLemmas.{AreWaitsNoted-first}
use Rattle.endpoint_book.proofs.wait_table.WaitTable.take_first.Goals as goal

pub invariant_of-self : goal.invariant_of-self
invariant_of-self c =
    let at = c.args.at.now in
    let waits = after_all [] c.self.inside.past.items in
    let first = is_connect_of c.args.object at in
    let after = after_one c.self.inside.past.items c.and-self-inside.result.items (at, Back c.args.object) c.and-self-inside.ensures in
    let are = AreLists-first first (line_of at) waits c.self.inside.lists c.take_first-found.new.self
    (connect_there c.args.object at) c.self.invariant.0 c.take_first-found.ensures.takes in (
      subst (λ ws. AreLists ws c.take_first-found.new.self) (sym after) are,
      subst (λ ws. AreWaitsNoted ws c.strike_bare.new.owned.sets) (sym after)
          (AreWaitsNoted-first first waits c.take_first-found.new.self c.self.inside.owned.sets c.strike_bare.new.owned.sets are c.strike_bare.ensures c.self.invariant.1),
    )

pub returns-clause-waits : goal.returns-clause-waits
returns-clause-waits c =
    let r = is_connect_of c.args.object c.args.at.now in
    let line = line_of c.args.at.now in
    c.take_first-found.ensures.waits ∙ ap (list_any r) (c.self.invariant.0 line)
    ∙ any_within r (stands_at line) (connect_there c.args.object c.args.at.now) (after_all [] c.self.inside.past.items)
    ∙ ap (list_any r) c.self.view_is

pub returns-clause-takes : goal.returns-clause-takes
returns-clause-takes c =
    after_one c.self.inside.past.items c.and-self-inside.result.items (c.args.at.now, Back c.args.object) c.and-self-inside.ensures
    ∙ ap (without_first (is_connect_of c.args.object c.args.at.now)) c.self.view_is
