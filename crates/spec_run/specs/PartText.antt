-- How a part of a message is printed (own choice): so that a script reads it back as the same part.
use Rattle.std.specs.Prelude.{◌&&◌, ℕ, List, [], ◌∷◌, ◌++◌, Bool, not, nat_eq, if◌then◌else◌, codes, flat_map}
use Rattle.std.specs.Char.{is_ascii_graphic}
use Rattle.std.specs.List.{list_all, starts_with}
use Rattle.std.specs.Str.{bytes_eq}
use Rattle.hex.specs.Hex.{encode_lower}

-- the part would be read back as itself: printable octets that have no other meaning
abbrev pub is_plain_part : List ℕ → Bool
is_plain_part part =
    list_all is_ascii_graphic part
    && (not (bytes_eq part (codes "-")) && not (starts_with nat_eq part (codes "0x")))

-- a part: `-` where it is empty, itself where it is read back so, else its octets in hex
abbrev pub part_text : List ℕ → List ℕ
part_text [] = codes "-"
part_text (octet ∷ octets) =
    if is_plain_part (octet ∷ octets) then octet ∷ octets else codes "0x" ++ encode_lower (octet ∷ octets)

-- the parts of a message, each behind a space
abbrev pub parts_text : List (List ℕ) → List ℕ
parts_text parts = flat_map (λ part. codes " " ++ part_text part) parts
