use Rattle.std.proofs.Common.{sym, ap, ◌∙◌}
use Rattle.router_dealer.specs.PlaceNames.{place_named}
use Rattle.router_dealer.specs.NameTable.{names_of}
use Rattle.router_dealer.proofs.PlaceNamesLemmas.{no_some, apart_tied}
use Rattle.router_dealer.proofs.names.Names.name_of.Goals as goal

pub unreachable-requires : goal.unreachable-requires
unreachable-requires c =
    let table = c.self.invariant in
    let ns = names_of c.self.inside.places.entries in
    let there = ap (λ names. place_named names c.requires.0) c.self.view_is ∙ c.requires.1 in
    let none = sym (table.told c.args.place) ∙ sym c.in-None.ensures.value in
    no_some (sym none ∙ (apart_tied ns table.apart c.requires.0 c.args.place).0 there)

pub returns : goal.returns
returns c =
    let table = c.self.invariant in
    let ns = names_of c.self.inside.places.entries in
    let name = c.in-Some.name.now in
    ap (λ names. place_named names name) (sym c.self.view_is)
    ∙ (apart_tied ns table.apart name c.args.place).1 (sym (table.told c.args.place) ∙ sym c.in-Some.ensures.value)
