use Rattle.std.proofs.Common.{ap, sym, subst, ◌∙◌, Some, None, ◌++◌, ◌∷◌, []}
use Rattle.std.specs.Option.{is_some}
use Rattle.endpoint_book.specs.WaitLists.{Sets, AreAlike, lists_of, list_at}
use Rattle.endpoint_book.proofs.ListsLemmas.{list_at-found, Sets-updated, AreAlike-set}
use Rattle.endpoint_book.proofs.wait_lists.WaitLists.push_at.Goals as goal

pub begin-requires : goal.begin-requires
begin-requires c =
    ap (λ m. list_at (lists_of m.entries) c.args.line.now) c.get_mut.follows.holds-at-none
    ∙ sym (list_at-found c.args.line.now c.self.inside.lists.entries None c.in-None.ensures.value)

pub returns-in-Ok-clause-ok : goal.returns-in-Ok-clause-ok
returns-in-Ok-clause-ok c =
    let line = c.args.line.now in
    let new = (c.get_mut.follows.lender c.push.new.self).entries in
    subst (λ old. Sets line (list_at old line ++ c.args.wait ∷ []) old (lists_of new)) c.self.view_is
    (subst (λ w. Sets line w (lists_of c.self.inside.lists.entries) (lists_of new))
    (c.in-Ok.ensures.items ∙ ap (λ l. l ++ c.args.wait ∷ []) (list_at-found line c.self.inside.lists.entries (Some c.in-Some.list.now) c.in-Some.ensures.value))
    (Sets-updated line c.self.inside.lists (c.get_mut.follows.lender c.push.new.self) (Some c.push.new.self)
    ((c.get_mut.follows.holds c.push.new.self).3 (ap is_some (sym c.in-Some.ensures.value)))))

pub returns-in-Err-clause-err : goal.returns-in-Err-clause-err
returns-in-Err-clause-err c =
    let line = c.args.line.now in
    let new = (c.get_mut.follows.lender c.push.new.self).entries in
    subst (λ old. AreAlike old (lists_of new)) c.self.view_is
    (AreAlike-set line c.push.new.self.items (lists_of c.self.inside.lists.entries) (lists_of new)
    (Sets-updated line c.self.inside.lists (c.get_mut.follows.lender c.push.new.self) (Some c.push.new.self)
    ((c.get_mut.follows.holds c.push.new.self).3 (ap is_some (sym c.in-Some.ensures.value))))
    (c.in-Err.ensures.items ∙ list_at-found line c.self.inside.lists.entries (Some c.in-Some.list.now) c.in-Some.ensures.value))
