use Rattle.std.proofs.Common.{subst, not, filter}
use Rattle.spec_control.specs.EndpointBook.{is_waiter}
use Rattle.endpoint_book.specs.WaitLists.{Sets, list_at}
use Rattle.endpoint_book.proofs.NotedLemmas.{DropsSome, DropsSome-more, DropsSome-all, nothing_there}
use Rattle.endpoint_book.proofs.wait_table.drop_all.Goals as goal

pub lines-preserved : goal.lines-preserved
lines-preserved c =
    let now = c.lines.lists in
    let new = c.drop_at.new.self in
    DropsSome-more c.args.object c.lines.left.keys c.pop.new.self.keys c.in-Some.line c.args.lists.now now new
    c.in-Some.ensures.keys c.lines.invariant
    (subst (λ line. Sets line (filter (λ w. not (is_waiter c.args.object w)) (list_at now line)) now new) c.as_slice.ensures.value c.drop_at.ensures)

pub returns : goal.returns
returns c =
    DropsSome-all c.args.object c.args.lists.now c.lines.lists
    (subst (λ keys. DropsSome c.args.object keys c.args.lists.now c.lines.lists) (nothing_there c.lines.left.keys c.in_default.ensures.found.1) c.lines.invariant)
