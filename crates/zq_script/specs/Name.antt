-- Names of actors and sockets (own choice).
use Rattle.std.specs.Prelude.{◌&&◌, ◌||◌, ℕ, Bool, List, length, nat_eq, nat_le}
use Rattle.std.specs.Char.{is_ascii_alphanumeric}
use Rattle.std.specs.List.{list_all}

-- a letter, a digit or `_`
abbrev pub is_word_octet : ℕ → Bool
is_word_octet octet = is_ascii_alphanumeric octet || nat_eq octet 95

-- a name: 1 to 32 letters, digits and `_`
unfoldable pub is_name : List ℕ → Bool
is_name word = nat_le 1 (length word) && nat_le (length word) 32 && list_all is_word_octet word
