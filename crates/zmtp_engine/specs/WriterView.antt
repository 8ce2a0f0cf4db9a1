-- What the fields of a writer stand for.
use Rattle.std.specs.Prelude.{ℕ, suc, ◌+◌, ◌-◌, ◌*◌, ◌^◌, ◌<◌, ◌≤◌, ◌==◌, if◌then◌else◌, List, [], ◌++◌, length, drop, slice_index_or, Option, Some, None}
use Rattle.bytes.specs.Filled.{Filled}
use Rattle.spec_zmtp.specs.declared.flags.FrameKind.{FrameKind}
use Rattle.spec_zmtp.specs.declared.flags.FrameKind.TheVariants.{Last, More}
use Rattle.spec_zmtp.specs.FrameEncoding.{encode_head}
use Rattle.zmtp_engine.specs.declared.sending.Next.{Next}
use Rattle.zmtp_engine.specs.declared.sending.Next.TheVariants.{Head, Body, Lent}
use Rattle.zmtp_engine.specs.declared.sending.Sending.{Sending}
use Rattle.zmtp_engine.specs.declared.writer.Writer.{Writer}
use Rattle.zmtp_engine.specs.Output.{Output, piece_of, pieces_of, run_size}

-- ---- a message that is being written

-- the body of a frame
abbrev pub body_at : List (List ℕ) → ℕ → List ℕ
body_at frames frame = slice_index_or frames frame []

-- the kind of a frame: MORE on all but the last
abbrev pub kind_of : List (List ℕ) → ℕ → FrameKind
kind_of frames frame = if frame + 1 == length frames then Last else More

-- the head of a frame
abbrev pub head_at : List (List ℕ) → ℕ → List ℕ
head_at frames frame = encode_head (kind_of frames frame) (length (body_at frames frame))

-- the pieces that are in no run yet, by what of this frame comes next
abbrev pub pieces_at : Next → List (List ℕ) → ℕ → List (List ℕ)
pieces_at Head frames frame = pieces_of (drop frame frames)
pieces_at Body frames frame = piece_of (body_at frames frame) ++ pieces_of (drop (suc frame) frames)
pieces_at Lent frames frame = pieces_of (drop (suc frame) frames)

abbrev pub pieces_behind : Sending → List (List ℕ)
pieces_behind s = pieces_at s.next s.message s.frame

-- a frame is within the message, or all are behind
abbrev pub IsPlaceAt : Next → List (List ℕ) → ℕ → Type 0
IsPlaceAt Head frames frame = frame ≤ length frames
IsPlaceAt Body frames frame = frame < length frames
IsPlaceAt Lent frames frame = frame < length frames

abbrev pub IsSending : Sending → Type 0
IsSending s = IsPlaceAt s.next s.message s.frame

-- a piece is taken next
abbrev pub IsOpen : Next → Type 0
IsOpen Head = Unit {0}
IsOpen Body = Unit {0}
IsOpen Lent = ⊥

-- a run of so many octets doesn't hold what comes next
abbrev pub IsOverAt : Next → List (List ℕ) → ℕ → ℕ → Type 0
IsOverAt Head frames frame run = run_size < run + length (head_at frames frame)
IsOverAt Body frames frame run = run_size < run + length (body_at frames frame)
IsOverAt Lent frames frame run = ⊥

abbrev pub IsOver : Sending → ℕ → Type 0
IsOver s run = IsOverAt s.next s.message s.frame run

-- what bounds the pieces that are to come
abbrev pub togo_at : Next → List (List ℕ) → ℕ → ℕ
togo_at Head frames frame = 2 * (length frames - frame)
togo_at Body frames frame = 2 * (length frames - frame) - 1
togo_at Lent frames frame = 0

abbrev pub togo : Sending → ℕ
togo s = togo_at s.next s.message s.frame

-- room for a whole run is kept
pub record HasRoom (run : Filled) : Type 0 where
  pub room : run_size ≤ length run.items + run.spare
  pub few : length run.items ≤ run_size

-- ---- a writer

-- where the octets lie that are lent: gathered, or a body in its own place
abbrev pub source_at : Next → Sending → List ℕ → List ℕ
source_at Head s gathered = gathered
source_at Body s gathered = gathered
source_at Lent s gathered = body_at s.message s.frame

abbrev pub source_in : Option Sending → List ℕ → List ℕ
source_in None gathered = gathered
source_in (Some s) gathered = source_at s.next s gathered

-- the pieces of a message that may be written
abbrev pub later_in : Option Sending → Option (List (List ℕ))
later_in None = None
later_in (Some s) = Some (pieces_behind s)

abbrev pub IsSendingIn : Option Sending → Type 0
IsSendingIn None = Unit {0}
IsSendingIn (Some s) = IsSending s

abbrev pub source_of : Writer → List ℕ
source_of w = source_in w.sending w.run.items

-- what is lent, without where it lies in memory
abbrev pub output_of : Writer → Output
output_of w = record { begun = w.begun; run = drop w.at (source_of w); later = later_in w.sending }

-- room for a run is kept, and no more of one is written than there is
pub record IsWriter (w : Writer) : Type 0 where
  pub room : HasRoom w.run
  pub within : w.at ≤ length (source_of w)
  pub short : length (source_of w) < 2 ^ 32
  pub place : IsSendingIn w.sending
