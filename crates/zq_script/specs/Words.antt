-- How a script is cut into lines, and a line into words (own choice).
use Rattle.std.specs.Prelude.{ℕ, Bool, true, List, [], ◌∷◌, length, nat_eq, nat_lt, filter, if◌then◌else◌}
use Rattle.std.specs.List.{slice_split, starts_with}

-- the words of a line, in order
abbrev pub Words : Type 0
Words = List (List ℕ)

-- the pieces, but for an empty one at the end
unfoldable pub without_empty_end : List (List ℕ) → List (List ℕ)
without_empty_end [] = []
without_empty_end (piece ∷ []) = if nat_eq (length piece) 0 then [] else piece ∷ []
without_empty_end (piece ∷ next ∷ more) = piece ∷ without_empty_end (next ∷ more)

-- the lines of a text: LF ends each of them, and the last may lack it
unfoldable pub lines_of : List ℕ → List (List ℕ)
lines_of octets = without_empty_end (slice_split (λ octet. nat_eq octet 10) octets)

-- a piece has octets
abbrev pub is_some_word : List ℕ → Bool
is_some_word piece = nat_lt 0 (length piece)

-- the words of a line: what stands between its spaces
unfoldable pub words_of : List ℕ → Words
words_of line = filter is_some_word (slice_split (λ octet. nat_eq octet 32) line)

-- a line is skipped that has no words, or whose first word begins with `#`
unfoldable pub is_skipped : Words → Bool
is_skipped [] = true
is_skipped (word ∷ words) = starts_with nat_eq word (35 ∷ [])
