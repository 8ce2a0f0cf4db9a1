use Rattle.std.proofs.Common.{sym, ap, subst, ◌∙◌}
use Rattle.router_dealer.specs.PlaceNames.{without_name_at}
use Rattle.router_dealer.specs.NameTable.{names_of, name_at, IsNameTable}
use Rattle.router_dealer.proofs.PlaceNamesLemmas.{without_its_name, without_none}
use Rattle.router_dealer.proofs.NameTableLemmas.{gone_table}
use Rattle.router_dealer.proofs.names.Names.forget.Goals as goal

pub invariant_of-self : goal.invariant_of-self
invariant_of-self c =
    let table = c.self.invariant in
    let ns = names_of c.self.inside.places.entries in
    let is = c.free.ensures ∙ without_its_name c.args.place ns c.in-Some.name table.apart (sym (table.told c.args.place) ∙ sym c.in-Some.ensures.value) in
    subst (λ names. IsNameTable names (name_at c.swap_remove.new.self.entries)) (sym is)
    (gone_table ns (name_at c.self.inside.names.entries) (name_at c.swap_remove.new.self.entries) table c.args.place c.swap_remove.ensures.updates.0)

pub returns-in-Some-clause-without : goal.returns-in-Some-clause-without
returns-in-Some-clause-without c =
    let table = c.self.invariant in
    let ns = names_of c.self.inside.places.entries in
    c.free.ensures ∙ without_its_name c.args.place ns c.in-Some.name table.apart (sym (table.told c.args.place) ∙ sym c.in-Some.ensures.value)
    ∙ ap (without_name_at c.args.place) c.self.view_is

pub returns-in-Some-clause-sound : goal.returns-in-Some-clause-sound
returns-in-Some-clause-sound c = (invariant_of-self c).apart

pub returns-in-None-clause-without : goal.returns-in-None-clause-without
returns-in-None-clause-without c =
    let table = c.self.invariant in
    let ns = names_of c.self.inside.places.entries in
    sym (without_none c.args.place ns (sym (table.told c.args.place) ∙ sym c.in-None.ensures.value))
    ∙ ap (without_name_at c.args.place) c.self.view_is
