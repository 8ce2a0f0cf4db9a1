use Rattle.std.proofs.Common.{ap, ◌∙◌}
use Rattle.indexmap.proofs.CallerLemmas.{insert_entry-new}
use Rattle.router_dealer.specs.NameTable.{names_of}
use Rattle.router_dealer.proofs.NameTableLemmas.{lookup-names_of, names_of-push}
use Rattle.router_dealer.proofs.names.enter.Goals as goal

pub returns : goal.returns
returns c =
    ap names_of (c.in-Ok.ensures.entries ∙ insert_entry-new _ c.args.places.now c.args.name c.args.place (lookup-names_of c.args.places.now.entries c.args.name.items ∙ c.requires.free))
    ∙ names_of-push c.args.places.now.entries c.args.name c.args.place
