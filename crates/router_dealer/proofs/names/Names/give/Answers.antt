use Rattle.std.proofs.Common.{◌++◌, ◌∷◌, [], ℕ, List, sym, ap, subst, ◌∙◌}
use Rattle.router_dealer.specs.PlaceNames.{PlaceName, place_named, name_placed}
use Rattle.router_dealer.specs.NameTable.{names_of, name_at, IsNameTable}
use Rattle.router_dealer.proofs.NameTableLemmas.{given_table}
use Rattle.router_dealer.proofs.names.Names.give.Goals as goal

pub invariant_of-self-in-Ok : goal.invariant_of-self-in-Ok
invariant_of-self-in-Ok c =
    let names = names_of c.self.inside.places.entries in
    let name = c.args.name.now in
    let place = c.args.place in
    let is = c.enter.ensures
    ∙ ap (λ es. names_of es ++ record { name = c.in_ok-key.key.items; place = place } ∷ []) c.in_ok-reserve.ensures.entries
    ∙ ap (λ (n : List ℕ). names ++ record { name = n; place = place } ∷ []) c.in_ok-key.ensures.items in
    subst (λ (l : List PlaceName). IsNameTable l (name_at c.put_name.new.names.entries)) (sym is)
    (given_table names (name_at c.self.inside.names.entries) (name_at c.put_name.new.names.entries) c.self.invariant name place
    (ap (λ l. place_named l name) c.self.view_is ∙ c.requires.free)
    (ap (λ l. name_placed l place) c.self.view_is ∙ c.requires.nameless)
    c.in-Ok.ensures.ok)

pub returns-in-Ok-clause-sound : goal.returns-in-Ok-clause-sound
returns-in-Ok-clause-sound c = (invariant_of-self-in-Ok c).apart
