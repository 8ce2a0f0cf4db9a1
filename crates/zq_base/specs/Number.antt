-- Numbers as words: decimal digits without a sign or a leading zero (own choice).
use Rattle.std.specs.Prelude.{◌&&◌, ◌||◌, ℕ, Bool, List, Option, Some, None, length, nat_eq, nat_le, not, slice_index, if◌then◌else◌}
use Rattle.std.specs.Char.{is_ascii_digit}
use Rattle.std.specs.List.{list_all}
use Rattle.std.specs.Str.Parse.{digits_value}

-- the word is a number: digits, the first of them no zero where there are several
unfoldable pub is_number : List ℕ → Bool
is_number word =
    nat_le 1 (length word) && (list_all is_ascii_digit word
    && (nat_eq (length word) 1 || not (nat_eq (slice_index word 0) 48)))

-- the number that the word is, from `least` to `most`
unfoldable pub number_in : ℕ → ℕ → List ℕ → Option ℕ
number_in least most word =
    if is_number word && (nat_le least (digits_value 10 word) && nat_le (digits_value 10 word) most)
    then Some (digits_value 10 word) else None
