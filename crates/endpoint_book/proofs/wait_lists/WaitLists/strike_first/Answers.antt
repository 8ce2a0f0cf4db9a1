use Rattle.std.proofs.Common.{ap, sym, subst, ◌∙◌, Some, None}
use Rattle.std.specs.List.{list_any}
use Rattle.std.specs.Option.{is_some}
use Rattle.spec_control.specs.EndpointBook.{is_connect_of, without_first}
use Rattle.endpoint_book.specs.WaitLists.{Sets, lists_of, list_at}
use Rattle.endpoint_book.proofs.ListsLemmas.{list_at-found, Sets-updated, Sets-same}
use Rattle.endpoint_book.proofs.OrderLemmas.{first_none}
use Rattle.endpoint_book.proofs.WaitingLemmas.{any_found, none_found, remove-position}
use Rattle.endpoint_book.proofs.wait_lists.WaitLists.strike_first.Goals as goal

pub returns-in-Some-place_of-clause-waits : goal.returns-in-Some-place_of-clause-waits
returns-in-Some-place_of-clause-waits c =
    let r = is_connect_of c.args.object c.args.at.now in
    let line = c.args.line.now in
    sym (any_found r c.in-Some.list.now.items c.in-Some-place_of.place c.in-Some-place_of.ensures)
    ∙ ap (list_any r) (list_at-found line c.self.inside.lists.entries (Some c.in-Some.list.now) c.in-Some.ensures.value ∙ ap (λ l. list_at l line) c.self.view_is)

pub returns-in-Some-place_of-clause-takes : goal.returns-in-Some-place_of-clause-takes
returns-in-Some-place_of-clause-takes c =
    let r = is_connect_of c.args.object c.args.at.now in
    let line = c.args.line.now in
    let new = (c.get_mut.follows.lender c.remove.new.self).entries in
    subst (λ old. Sets line (without_first r (list_at old line)) old (lists_of new)) c.self.view_is
    (subst (λ w. Sets line w (lists_of c.self.inside.lists.entries) (lists_of new))
    (c.remove.ensures.items ∙ remove-position r c.in-Some.list.now.items c.in-Some-place_of.place c.in-Some-place_of.ensures
    ∙ ap (without_first r) (list_at-found line c.self.inside.lists.entries (Some c.in-Some.list.now) c.in-Some.ensures.value))
    (Sets-updated line c.self.inside.lists (c.get_mut.follows.lender c.remove.new.self) (Some c.remove.new.self)
    ((c.get_mut.follows.holds c.remove.new.self).3 (ap is_some (sym c.in-Some.ensures.value)))))

pub returns-in-None-place_of-clause-waits : goal.returns-in-None-place_of-clause-waits
returns-in-None-place_of-clause-waits c =
    let r = is_connect_of c.args.object c.args.at.now in
    let line = c.args.line.now in
    sym (none_found r c.in-Some.list.now.items c.in-None-place_of.ensures)
    ∙ ap (list_any r) (list_at-found line c.self.inside.lists.entries (Some c.in-Some.list.now) c.in-Some.ensures.value ∙ ap (λ l. list_at l line) c.self.view_is)

pub returns-in-None-place_of-clause-takes : goal.returns-in-None-place_of-clause-takes
returns-in-None-place_of-clause-takes c =
    let r = is_connect_of c.args.object c.args.at.now in
    let line = c.args.line.now in
    let new = (c.get_mut.follows.lender c.in-Some.list.now).entries in
    subst (λ old. Sets line (without_first r (list_at old line)) old (lists_of new)) c.self.view_is
    (subst (λ w. Sets line w (lists_of c.self.inside.lists.entries) (lists_of new))
    (sym (first_none r c.in-Some.list.now.items (none_found r c.in-Some.list.now.items c.in-None-place_of.ensures))
    ∙ ap (without_first r) (list_at-found line c.self.inside.lists.entries (Some c.in-Some.list.now) c.in-Some.ensures.value))
    (Sets-updated line c.self.inside.lists (c.get_mut.follows.lender c.in-Some.list.now) (Some c.in-Some.list.now)
    ((c.get_mut.follows.holds c.in-Some.list.now).3 (ap is_some (sym c.in-Some.ensures.value)))))

pub returns-in-None-clause-waits : goal.returns-in-None-clause-waits
returns-in-None-clause-waits c =
    let line = c.args.line.now in
    ap (list_any (is_connect_of c.args.object c.args.at.now)) (list_at-found line c.self.inside.lists.entries None c.in-None.ensures.value ∙ ap (λ l. list_at l line) c.self.view_is)

pub returns-in-None-clause-takes : goal.returns-in-None-clause-takes
returns-in-None-clause-takes c =
    let r = is_connect_of c.args.object c.args.at.now in
    let line = c.args.line.now in
    let none = list_at-found line c.self.inside.lists.entries None c.in-None.ensures.value ∙ ap (λ l. list_at l line) c.self.view_is in
    subst (λ new. Sets line (without_first r (list_at c.args.self.now line)) c.args.self.now new) (sym (ap (λ m. lists_of m.entries) c.get_mut.follows.holds-at-none ∙ c.self.view_is))
    (Sets-same line (without_first r (list_at c.args.self.now line)) c.args.self.now
    (ap (without_first r) (sym none) ∙ none))
