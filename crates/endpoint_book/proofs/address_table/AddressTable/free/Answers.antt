use Rattle.std.proofs.Common.{ap, ◌∙◌}
use Rattle.std.specs.FinMap as finite
use Rattle.spec_control.specs.EndpointBook.{numbers_of}
use Rattle.endpoint_book.specs.View.{names_of}
use Rattle.endpoint_book.specs.Keys.{key_numbers}
use Rattle.endpoint_book.proofs.NamesLemmas.{names_of-freed}
use Rattle.endpoint_book.proofs.KeyLemmas.{same_numbers}
use Rattle.endpoint_book.proofs.address_table.AddressTable.free.Goals as goal

pub returns : goal.returns
returns c =
    names_of-freed key_numbers (key_numbers c.of-key.result) c.self.inside.held c.free.new.self c.free.ensures.0 c.free.ensures.1
    ∙ ap (finite.remove (names_of key_numbers c.self.inside.held)) (same_numbers c.of-key.result c.args.address.now c.of-key.ensures.port c.of-key.ensures.octets)
    ∙ ap (λ t. finite.remove t (numbers_of c.args.address.now)) c.self.view_is
