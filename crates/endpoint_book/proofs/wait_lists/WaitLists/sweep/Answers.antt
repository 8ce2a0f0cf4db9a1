use Rattle.std.proofs.Common.{ap, sym, subst, ◌∙◌, None, []}
use Rattle.endpoint_book.specs.WaitLists.{AreAlike, lists_of, list_at}
use Rattle.endpoint_book.proofs.ListsLemmas.{Sets-updated, AreAlike-set}
use Rattle.endpoint_book.proofs.wait_lists.WaitLists.sweep.Goals as goal
use Rattle.endpoint_book.proofs.wait_lists.WaitLists.sweep.Goals.{in-Some-1, in-None-1}

pub returns-then-has_none : goal.returns-then-has_none
returns-then-has_none c =
    let line = c.args.line.now in
    let alike : AreAlike c.args.self.now (lists_of c.remove.new.self.entries) =
    subst (λ old. AreAlike old (lists_of c.remove.new.self.entries)) c.self.view_is
    (AreAlike-set line [] (lists_of c.self.inside.lists.entries) (lists_of c.remove.new.self.entries)
    (Sets-updated line c.self.inside.lists c.remove.new.self None c.remove.ensures.updates)
    (sym (ap (λ l. list_at l line) c.self.view_is ∙ c.has_none.ensures c.if-has_none.true))) in
    elim c.match-remove.branch [
      | in-Some-1 w ↦ subst (λ new. AreAlike c.args.self.now new) (sym w.self-is) alike
      | in-None-1 w ↦ subst (λ new. AreAlike c.args.self.now new) (sym w.self-is) alike
    ]
