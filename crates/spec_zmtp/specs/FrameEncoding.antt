-- The encodings of a frame, on whole lists of octets (RFC 23, "Framing").
-- A short body may have a long size, too (own choice); written is the short form wherever it fits.
use Rattle.std.specs.Prelude.{◌≡◌, ℕ, ◌<◌, ◌≤◌, ◌^◌, Bool, nat_lt, if◌then◌else◌, List, [], ◌∷◌, ◌++◌, length, MatchOption}
use Rattle.std.specs.Int.{w64, to_be_bytes}
use Rattle.spec_zmtp.specs.declared.flags.FrameKind.{FrameKind}
use Rattle.spec_zmtp.specs.declared.flags.FrameKind.TheVariants.{Last, More}
use Rattle.spec_zmtp.specs.FrameFlags.{flags_octet, flags_at, limit}

-- a frame on the wire: its kind, whether its size is long, and its body
pub record WireFrame : Type 0 where
  pub kind : FrameKind
  pub long : Bool
  pub body : List ℕ

-- ---- the head

-- the size: one octet, or eight in network order
abbrev pub size_octets : Bool → ℕ → List ℕ
size_octets long size = if long then to_be_bytes w64 size else size ∷ []

-- how many octets the size has
abbrev pub size_length : Bool → ℕ
size_length long = if long then 8 else 1

-- the size can be told in so many octets
abbrev pub FitsSize : Bool → ℕ → Type 0
FitsSize long size = size < (if long then 2 ^ 64 else 256)

-- the octets of a head
abbrev pub head_octets : FrameKind → Bool → ℕ → List ℕ
head_octets kind long size = flags_octet kind long ∷ size_octets long size

-- the octets are a head of this kind and size
abbrev pub IsHead : FrameKind → ℕ → List ℕ → Type 0
IsHead kind size octets = (long : Bool) × FitsSize long size × (octets ≡ head_octets kind long size)

-- the octets end before a whole head: none, or a flags octet and fewer octets of the size than it says
abbrev pub IsCutHead : List ℕ → Type 0
IsCutHead [] = Unit {0}
IsCutHead (flags ∷ size) = MatchOption (flags_at flags) ⊥ (λ f. length size < size_length f.long)

-- the head that is written: long exactly where the body has more than 255 octets
abbrev pub encode_head : FrameKind → ℕ → List ℕ
encode_head kind size = head_octets kind (nat_lt 255 size) size

-- ---- the frame

-- the octets of a frame
abbrev pub octets_of : WireFrame → List ℕ
octets_of f = head_octets f.kind f.long (length f.body) ++ f.body

-- the size can be told, and is within the limit
pub record IsWireFrame (f : WireFrame) : Type 0 where
  pub fits : FitsSize f.long (length f.body)
  pub within : length f.body ≤ limit f.kind

-- the encoding that is written
abbrev pub encode_frame : FrameKind → List ℕ → List ℕ
encode_frame kind body = encode_head kind (length body) ++ body

-- a message as it is written: its frames in order, with MORE on all but the last
abbrev pub encode_message : List (List ℕ) → List ℕ
encode_message [] = []
encode_message (body ∷ []) = encode_frame Last body
encode_message (body ∷ next ∷ more) = encode_frame More body ++ encode_message (next ∷ more)
