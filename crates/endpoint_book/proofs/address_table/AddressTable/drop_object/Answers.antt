use Rattle.std.proofs.Common.{ap, ◌∙◌}
use Rattle.spec_control.specs.EndpointBook.{names_without}
use Rattle.endpoint_book.specs.Keys.{key_numbers}
use Rattle.endpoint_book.proofs.NamesLemmas.{names_of-dropped}
use Rattle.endpoint_book.proofs.address_table.AddressTable.drop_object.Goals as goal

pub returns : goal.returns
returns c =
    names_of-dropped key_numbers c.args.object c.self.inside.held c.drop_object.new.self c.drop_object.ensures
    ∙ ap (names_without c.args.object) c.self.view_is
