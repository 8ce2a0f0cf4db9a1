use Rattle.std.proofs.Common.{ap, subst, sym, ◌∙◌, Some, ◌++◌, ◌∷◌, []}
use Rattle.std.specs.BTreeMap.{UpdatesBy}
use Rattle.std.specs.Cmp.Lexicographic.{slice_cmp}
use Rattle.std.specs.Ordering.{nat_cmp}
use Rattle.endpoint_book.specs.WaitLists.{Sets, lists_of, list_at}
use Rattle.endpoint_book.proofs.ListsLemmas.{line_cmp, Sets-updated}
use Rattle.endpoint_book.proofs.wait_lists.WaitLists.begin.Goals as goal

pub returns-clause-ok : goal.returns-clause-ok
returns-clause-ok c =
    subst (λ old. Sets c.args.line.now (list_at c.args.self.now c.args.line.now ++ c.args.wait ∷ []) old (lists_of c.insert.new.self.entries)) c.self.view_is
    (subst (λ w. Sets c.args.line.now w (lists_of c.self.inside.lists.entries) (lists_of c.insert.new.self.entries))
    (c.in_ok-push.ensures.items ∙ ap (λ l. l ++ c.args.wait ∷ []) (c.new-list.ensures.items ∙ sym c.requires))
    (Sets-updated c.args.line.now c.self.inside.lists c.insert.new.self (Some c.push.new.self)
    (subst (λ key. UpdatesBy line_cmp (λ k. slice_cmp nat_cmp key k.items) c.self.inside.lists c.insert.new.self (Some c.push.new.self)) c.in_ok-key.ensures.items c.in_ok-insert.ensures.updates)))
