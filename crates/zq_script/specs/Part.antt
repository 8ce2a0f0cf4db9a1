-- The parts of a message, as a script writes them (own choice).
use Rattle.std.specs.Prelude.{◌&&◌, ℕ, List, [], ◌∷◌, Option, Some, None, Result, Ok, Err, length, nat_eq, nat_lt, nat_le, codes, drop, if◌then◌else◌}
use Rattle.std.specs.Char.{is_ascii_graphic}
use Rattle.std.specs.List.{list_all, starts_with}
use Rattle.std.specs.Result.{result_ok}
use Rattle.std.specs.Str.{bytes_eq}
use Rattle.hex.specs.Hex.{decode_of}
use Rattle.zq_base.specs.Message.{max_frames}
use Rattle.zq_script.specs.declared.fault.Cause.{Cause}
use Rattle.zq_script.specs.declared.fault.Cause.TheVariants.{BadWord, BadPart}
use Rattle.zq_script.specs.Answer.{◌>>=◌}
use Rattle.zq_script.specs.Words.{Words}

-- the octets that `0x` and an even number, at least two, of hex digits stand for
unfoldable pub hex_part : List ℕ → Option (List ℕ)
hex_part word =
    if starts_with nat_eq word (codes "0x") && nat_le 4 (length word)
    then result_ok (decode_of (drop 2 word)) else None

-- a word of printable octets that stands for itself, where it has no other meaning
unfoldable pub plain_part : List ℕ → Option (List ℕ) → Result (List ℕ) Cause
plain_part word (Some octets) = Ok octets
plain_part word None = if list_all is_ascii_graphic word then Ok word else Err BadPart

-- the octets of a part: `-` has none, hex digits give theirs, another printable word is itself
unfoldable pub part_of : List ℕ → Result (List ℕ) Cause
part_of word = if bytes_eq word (codes "-") then Ok [] else plain_part word (hex_part word)

-- the octets of each part
unfoldable pub parts_of : Words → Result (List (List ℕ)) Cause
parts_of [] = Ok []
parts_of (word ∷ words) = do
  part ← part_of word
  parts ← parts_of words
  Ok (part ∷ parts)

-- the message of 1 to 1,024 parts; both a bad part and one too many are bad parts
unfoldable pub parts_message : Words → Result (List (List ℕ)) Cause
parts_message words =
    if nat_eq (length words) 0 then Err BadWord
    else if nat_lt max_frames (length words) then Err BadPart
    else parts_of words
