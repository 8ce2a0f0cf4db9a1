-- What an engine lends to be written: runs of whole pieces of what it says and was offered (RFC 23, "Framing"; the runs are own choice).
use Rattle.std.specs.Prelude.{ℕ, ◌+◌, nat_le, nat_lt, if◌then◌else◌, List, [], ◌∷◌, ◌++◌, length, drop, Option, Some, None}
use Rattle.std.specs.List.{flat_map}
use Rattle.spec_zmtp.specs.declared.flags.FrameKind.TheVariants.{Last, More}
use Rattle.spec_zmtp.specs.FrameEncoding.{encode_head}

-- ---- pieces

-- octets as a piece, unless there are none
abbrev pub piece_of : List ℕ → List (List ℕ)
piece_of [] = []
piece_of (octet ∷ octets) = (octet ∷ octets) ∷ []

-- the pieces of a message: each frame's head, and its body
abbrev pub pieces_of : List (List ℕ) → List (List ℕ)
pieces_of [] = []
pieces_of (body ∷ []) = encode_head Last (length body) ∷ piece_of body
pieces_of (body ∷ next ∷ more) = encode_head More (length body) ∷ (piece_of body ++ pieces_of (next ∷ more))

-- the octets of pieces
abbrev pub joined : List (List ℕ) → List ℕ
joined pieces = flat_map (λ piece. piece) pieces

-- ---- runs

-- the most octets of a run of several pieces
abbrev pub run_size : ℕ
run_size = 8192

-- a run, and the pieces behind it
pub record Run : Type 0 where
  pub octets : List ℕ
  pub later : List (List ℕ)

-- the longest run of whole pieces behind these octets that has at most so many octets
abbrev pub filled_run : List ℕ → List (List ℕ) → Run
filled_run octets [] = record { octets = octets; later = [] }
filled_run octets (piece ∷ later) =
    if nat_le (length octets + length piece) run_size then filled_run (octets ++ piece) later else
    record { octets = octets; later = piece ∷ later }

-- the next run: the longest of whole pieces that has at most so many octets, or a longer first piece alone
abbrev pub next_run : List (List ℕ) → Run
next_run [] = record { octets = []; later = [] }
next_run (piece ∷ later) =
    if nat_lt run_size (length piece) then record { octets = piece; later = later } else filled_run [] (piece ∷ later)

-- ---- what is lent

-- how many octets of what is said were taken into runs, what of the last run is not written, and of the message that is being
-- written the pieces behind that run
pub record Output : Type 0 where
  pub begun : ℕ
  pub run : List ℕ
  pub later : Option (List (List ℕ))

-- the pieces of a message that may be written
abbrev pub pieces_in : Option (List (List ℕ)) → List (List ℕ)
pieces_in None = []
pieces_in (Some pieces) = pieces

-- the pieces behind the run: what is said, as one piece, and those of the message
abbrev pub pieces_left : List ℕ → Output → List (List ℕ)
pieces_left said o = piece_of (drop o.begun said) ++ pieces_in o.later

-- their octets
abbrev pub octets_left : List ℕ → Output → List ℕ
octets_left said o = drop o.begun said ++ joined (pieces_in o.later)

-- the message that is being written, behind a run; it is written once there is no further run
abbrev pub after_run : Run → Option (List (List ℕ)) → Option (List (List ℕ))
after_run run None = None
after_run run (Some pieces) = if nat_lt 0 (length run.octets + length run.later) then Some run.later else None

-- a run is begun where nothing of the last one is left
abbrev pub begun_at : List ℕ → List ℕ → Output → Output
begun_at [] said o = record {
  begun = length said;
  run = (next_run (pieces_left said o)).octets;
  later = after_run (next_run (pieces_left said o)) o.later;
}
begun_at (octet ∷ run) said o = o

-- the same, by what of the last run is left
abbrev pub begun_run : List ℕ → Output → Output
begun_run said o = begun_at o.run said o
