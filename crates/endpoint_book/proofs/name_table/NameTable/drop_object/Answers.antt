use Rattle.std.proofs.Common.{ap, ◌∙◌}
use Rattle.spec_control.specs.EndpointBook.{names_without}
use Rattle.endpoint_book.specs.View.{octets_of}
use Rattle.endpoint_book.proofs.NamesLemmas.{names_of-dropped}
use Rattle.endpoint_book.proofs.name_table.NameTable.drop_object.Goals as goal

pub returns : goal.returns
returns c =
    names_of-dropped octets_of c.args.object c.self.inside.held c.drop_object.new.self c.drop_object.ensures
    ∙ ap (names_without c.args.object) c.self.view_is
