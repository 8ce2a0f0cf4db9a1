use Rattle.std.proofs.Common.{sym, ap, ◌∙◌}
use Rattle.std.specs.FinMap as finite
use Rattle.endpoint_book.specs.View.{octets_of}
use Rattle.endpoint_book.proofs.NamesLemmas.{get-names_of}
use Rattle.endpoint_book.proofs.name_table.NameTable.find.Goals as goal

pub returns : goal.returns
returns c =
    c.find.ensures
    ∙ sym (get-names_of octets_of c.self.inside.held c.args.name.now)
    ∙ ap (λ t. finite.get t c.args.name.now) c.self.view_is
