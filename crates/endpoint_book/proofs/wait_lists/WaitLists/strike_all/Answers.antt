use Rattle.std.proofs.Common.{Bool, ap, sym, subst, ◌∙◌, not, filter, rules, Some, None}
use Rattle.std.proofs.lemmas.Fn.{filter_same}
use Rattle.std.specs.Option.{is_some}
use Rattle.spec_control.specs.declared.book.Waiting.{Waiting}
use Rattle.spec_control.specs.EndpointBook.{is_waiter}
use Rattle.endpoint_book.specs.WaitLists.{Sets, lists_of, list_at}
use Rattle.endpoint_book.proofs.ListsLemmas.{list_at-found, Sets-updated, Sets-same}
use Rattle.endpoint_book.proofs.wait_lists.WaitLists.strike_all.Goals as goal

pub returns-in-Some : goal.returns-in-Some
returns-in-Some c =
    let line = c.args.line.now in
    let others : Waiting → Bool = λ w. not (is_waiter c.args.object w) in
    let new = (c.get_mut.follows.lender c.retain.new.self).entries in
    subst (λ old. Sets line (filter others (list_at old line)) old (lists_of new)) c.self.view_is
    (subst (λ w. Sets line w (lists_of c.self.inside.lists.entries) (lists_of new))
    (filter_same _ others _ (λ x b f h. search rules) _ _ c.retain.ensures.filtered
    ∙ ap (filter others) (list_at-found line c.self.inside.lists.entries (Some c.in-Some.list.now) c.in-Some.ensures.value))
    (Sets-updated line c.self.inside.lists (c.get_mut.follows.lender c.retain.new.self) (Some c.retain.new.self)
    ((c.get_mut.follows.holds c.retain.new.self).3 (ap is_some (sym c.in-Some.ensures.value)))))

pub returns-in-None : goal.returns-in-None
returns-in-None c =
    let line = c.args.line.now in
    let others : Waiting → Bool = λ w. not (is_waiter c.args.object w) in
    subst (λ new. Sets line (filter others (list_at c.args.self.now line)) c.args.self.now new) (sym (ap (λ m. lists_of m.entries) c.get_mut.follows.holds-at-none ∙ c.self.view_is))
    (Sets-same line (filter others (list_at c.args.self.now line)) c.args.self.now
    (ap (λ l. filter others l) (sym (ap (λ l. list_at l line) c.self.view_is) ∙ sym (list_at-found line c.self.inside.lists.entries None c.in-None.ensures.value))
    ∙ list_at-found line c.self.inside.lists.entries None c.in-None.ensures.value ∙ ap (λ l. list_at l line) c.self.view_is))
