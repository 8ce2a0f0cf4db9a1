use Rattle.std.proofs.Common.{ap, ◌∙◌}
use Rattle.router_dealer.specs.PlaceNames.{place_named}
use Rattle.router_dealer.proofs.NameTableLemmas.{lookup-names_of}
use Rattle.router_dealer.proofs.names.Names.find.Goals as goal

pub returns : goal.returns
returns c =
    c.copied.ensures ∙ c.get.ensures.value
    ∙ lookup-names_of c.self.inside.places.entries c.args.name.now
    ∙ ap (λ names. place_named names c.args.name.now) c.self.view_is
