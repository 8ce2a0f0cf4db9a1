use Rattle.std.proofs.Common.{ap, ◌∙◌}
use Rattle.std.specs.FinMap as finite
use Rattle.endpoint_book.specs.View.{octets_of}
use Rattle.endpoint_book.proofs.NamesLemmas.{names_of-freed}
use Rattle.endpoint_book.proofs.name_table.NameTable.free.Goals as goal

pub returns : goal.returns
returns c =
    names_of-freed octets_of c.args.name.now c.self.inside.held c.free.new.self c.free.ensures.0 c.free.ensures.1
    ∙ ap (λ t. finite.remove t c.args.name.now) c.self.view_is
