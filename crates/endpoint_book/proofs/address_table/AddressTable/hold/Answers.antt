use Rattle.std.proofs.Common.{Some, ap, ◌∙◌}
use Rattle.std.proofs.lemmas.Result.{on_ok_weaker}
use Rattle.std.specs.FinMap as finite
use Rattle.spec_control.specs.EndpointBook.{numbers_of}
use Rattle.endpoint_book.specs.View.{names_of}
use Rattle.endpoint_book.specs.Keys.{key_numbers}
use Rattle.endpoint_book.specs.Held.{PutsHolder}
use Rattle.endpoint_book.proofs.NamesLemmas.{is_named, same_key, names_of-held}
use Rattle.endpoint_book.proofs.KeyLemmas.{same_numbers}
use Rattle.endpoint_book.proofs.address_table.AddressTable.hold.Goals as goal

pub returns-clause-ok : goal.returns-clause-ok
returns-clause-ok c =
    let name = key_numbers c.of-key.result in
    on_ok_weaker c.hold.result (λ (puts : PutsHolder (same_key key_numbers) (is_named key_numbers name) (Some c.args.binding) c.self.inside.held c.hold.new.self).
    names_of-held key_numbers name c.args.binding c.self.inside.held c.hold.new.self puts.0 puts.1
    ∙ ap (λ q. finite.insert (names_of key_numbers c.self.inside.held) q c.args.binding) (same_numbers c.of-key.result c.args.address.now c.of-key.ensures.port c.of-key.ensures.octets)
    ∙ ap (λ t. finite.insert t (numbers_of c.args.address.now) c.args.binding) c.self.view_is) c.hold.ensures.ok
