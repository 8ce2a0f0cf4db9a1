use Rattle.std.proofs.Common.{sym, ap, ◌∙◌}
use Rattle.std.specs.FinMap as finite
use Rattle.spec_control.specs.EndpointBook.{numbers_of}
use Rattle.endpoint_book.specs.View.{names_of}
use Rattle.endpoint_book.specs.Keys.{key_numbers}
use Rattle.endpoint_book.proofs.NamesLemmas.{get-names_of}
use Rattle.endpoint_book.proofs.KeyLemmas.{same_numbers}
use Rattle.endpoint_book.proofs.address_table.AddressTable.find.Goals as goal

pub returns : goal.returns
returns c =
    c.find.ensures
    ∙ sym (get-names_of key_numbers c.self.inside.held (key_numbers c.of-key.result))
    ∙ ap (finite.get (names_of key_numbers c.self.inside.held)) (same_numbers c.of-key.result c.args.address.now c.of-key.ensures.port c.of-key.ensures.octets)
    ∙ ap (λ t. finite.get t (numbers_of c.args.address.now)) c.self.view_is
