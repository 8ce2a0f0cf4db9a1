-- What a reader of frames tells of the octets that it is fed (RFC 23, "Framing").
use Rattle.std.specs.Prelude.{◌≡◌, ℕ, ◌+◌, ◌<◌, ◌≤◌, min, List, [], ◌∷◌, ◌++◌, length, take, Option, Some, None}
use Rattle.spec_zmtp.specs.declared.flags.FrameKind.{FrameKind}
use Rattle.spec_zmtp.specs.FrameFlags.{flags_at, limit}
use Rattle.spec_zmtp.specs.FrameEncoding.{IsHead, IsCutHead}
use Rattle.zmtp_frame.specs.declared.step.Step.{Step}
use Rattle.zmtp_frame.specs.declared.step.Step.TheVariants.{NeedMore, Head, Piece, FrameEnd, BadFlags, TooLong}

-- how far a reader is: the octets of a head that is not whole, how many octets of a body are to come, or what was refused
pub data Stage : Type 0 where
  InHead : List ℕ → Stage
  InBody : ℕ → Stage
  SawBadFlags : ℕ → Stage
  SawTooLong : ℕ → Stage

-- how many octets of a body are to come
abbrev pub left_at : Stage → Option ℕ
left_at (InHead octets) = None
left_at (InBody left) = Some left
left_at (SawBadFlags flags) = None
left_at (SawTooLong size) = None

-- nothing was refused
abbrev pub IsReading : Stage → Type 0
IsReading (InHead octets) = Unit {0}
IsReading (InBody left) = Unit {0}
IsReading (SawBadFlags flags) = ⊥
IsReading (SawTooLong size) = ⊥

-- octets of a head: more is needed, or the head is whole, or a rule is broken by the octet that was taken last
abbrev pub FeedsHead : List ℕ → List ℕ → ℕ → Step → Stage → Type 0
FeedsHead octets piece taken NeedMore new =
    (taken ≡ length piece) × IsCutHead (octets ++ piece) × (new ≡ InHead (octets ++ piece))
FeedsHead octets piece taken (Head kind size) new =
    (0 < taken) × (taken ≤ length piece) × IsHead kind size (octets ++ take taken piece) × (size ≤ limit kind) × (new ≡ InBody size)
FeedsHead octets piece taken (BadFlags flags) new =
    (taken ≡ 1) × (octets ≡ []) × (take 1 piece ≡ flags ∷ []) × (flags_at flags ≡ None) × (new ≡ SawBadFlags flags)
FeedsHead octets piece taken (TooLong size) new =
    (0 < taken) × (taken ≤ length piece)
    × ((kind : FrameKind) × IsHead kind size (octets ++ take taken piece) × (limit kind < size)) × (new ≡ SawTooLong size)
FeedsHead octets piece taken (Piece from to) new = ⊥
FeedsHead octets piece taken FrameEnd new = ⊥

-- octets of a body: as many as are there and are to come; its end is told by a step that takes none
abbrev pub FeedsBody : ℕ → List ℕ → ℕ → Step → Stage → Type 0
FeedsBody left piece taken NeedMore new = (taken ≡ 0) × (piece ≡ []) × (0 < left) × (new ≡ InBody left)
FeedsBody left piece taken (Piece from to) new =
    (from ≡ 0) × (to ≡ taken) × (0 < taken) × (taken ≡ min left (length piece))
    × ((rest : ℕ) × (left ≡ taken + rest) × (new ≡ InBody rest))
FeedsBody left piece taken FrameEnd new = (taken ≡ 0) × (left ≡ 0) × (new ≡ InHead [])
FeedsBody left piece taken (Head kind size) new = ⊥
FeedsBody left piece taken (BadFlags flags) new = ⊥
FeedsBody left piece taken (TooLong size) new = ⊥

-- a reader at a stage takes so many octets of a piece, tells this, and is then at the new stage
abbrev pub Feeds : Stage → List ℕ → ℕ → Step → Stage → Type 0
Feeds (InHead octets) piece taken step new = FeedsHead octets piece taken step new
Feeds (InBody left) piece taken step new = FeedsBody left piece taken step new
Feeds (SawBadFlags flags) piece taken step new = (taken ≡ 0) × (step ≡ BadFlags flags) × (new ≡ SawBadFlags flags)
Feeds (SawTooLong size) piece taken step new = (taken ≡ 0) × (step ≡ TooLong size) × (new ≡ SawTooLong size)
