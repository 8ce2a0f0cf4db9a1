use Rattle.std.proofs.Common.{ap, ◌∙◌}
use Rattle.router_dealer.specs.PlaceNames.{without_named}
use Rattle.router_dealer.specs.NameTable.{names_of}
use Rattle.router_dealer.proofs.NameTableLemmas.{names_of-removed}
use Rattle.router_dealer.proofs.names.free.Goals as goal

pub returns : goal.returns
returns c =
    ap names_of c.shift_remove.ensures.entries
    ∙ names_of-removed c.args.places.now.entries c.as_slice.result.now
    ∙ ap (λ name. without_named name (names_of c.args.places.now.entries)) c.as_slice.ensures
