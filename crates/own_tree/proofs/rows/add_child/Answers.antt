use Rattle.std.specs.Prelude.{◌<◌, length}
use Rattle.std.proofs.Common.{rules}
use Rattle.own_tree.proofs.ListLemmas.{holds_on_err, lists_same, lists_grow}
use Rattle.own_tree.proofs.rows.add_child.Goals as goal

pub returns-in_err-push-clause-err : goal.returns-in_err-push-clause-err
returns-in_err-push-clause-err c =
    let there : c.args.owner.0 < length c.args.lists.now.items = search (rules, c.requires) in
    holds_on_err _ (lists_same _ _ c.index_mut.result.now _ there c.index_mut.ensures.value c.in_err-push.ensures.items)

pub returns-clause-ok : goal.returns-clause-ok
returns-clause-ok c =
    let there : c.args.owner.0 < length c.args.lists.now.items = search (rules, c.requires) in
    lists_grow _ _ c.index_mut.result.now _ there c.index_mut.ensures.value c.args.child c.in_ok-push.ensures.items
