-- What an address is searched for by (own choice).
use Rattle.std.specs.Prelude.{◌/◌, ◌%◌, ℕ, List, [], ◌∷◌, slice_index_or}
use Rattle.zq_base.specs.declared.endpoint.Address.{Address}

-- its own four octets, and its port as two
abbrev pub address_line : Address → List ℕ
address_line address =
    slice_index_or address.octets 0 0 ∷ slice_index_or address.octets 1 0 ∷ slice_index_or address.octets 2 0 ∷ slice_index_or address.octets 3 0
    ∷ address.port / 256 ∷ address.port % 256 ∷ []
