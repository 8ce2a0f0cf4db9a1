-- How an address is searched for in a table (own choice).
use Rattle.std.specs.Prelude.{ℕ, List, ◌∷◌}
use Rattle.endpoint_book.specs.declared.address_table.Key.{Key}

-- the numbers of a key
abbrev pub key_numbers : Key → List ℕ
key_numbers key = key.port ∷ key.octets
