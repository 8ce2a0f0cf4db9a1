-- A key has the numbers of its address.
use Rattle.std.specs.Prelude.{◌≡◌, ℕ, List, ◌∷◌}
use Rattle.std.proofs.Common.{ap, ◌∙◌}
use Rattle.zq_base.specs.declared.endpoint.Address.{Address}
use Rattle.spec_control.specs.EndpointBook.{numbers_of}
use Rattle.endpoint_book.specs.declared.address_table.Key.{Key}
use Rattle.endpoint_book.specs.Keys.{key_numbers}

pub same_numbers : (key : Key) (address : Address) → key.port ≡ address.port → key.octets ≡ address.octets → key_numbers key ≡ numbers_of address
same_numbers key address p o = ap (λ (n : ℕ). n ∷ key.octets) p ∙ ap (λ (l : List ℕ). address.port ∷ l) o
