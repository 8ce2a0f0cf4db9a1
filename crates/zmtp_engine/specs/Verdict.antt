-- The refusal of a flags octet, by how the handshake stands and which frames of the message came before.
use Rattle.std.specs.Prelude.{◌≡◌, ℕ, ◌==◌, if◌then◌else◌, List, length, Option, Some, None}
use Rattle.zq_base.specs.Message.{max_committed}
use Rattle.spec_zmtp.specs.declared.cause.Cause.{Cause}
use Rattle.spec_zmtp.specs.declared.cause.Cause.TheVariants.{BadFlags, TooManyParts, OutOfOrder}
use Rattle.spec_zmtp.specs.declared.flags.FrameKind.{FrameKind}
use Rattle.spec_zmtp.specs.declared.flags.FrameKind.TheVariants.{Last, More, Command}
use Rattle.spec_zmtp.specs.declared.flags.Flags.{Flags}
use Rattle.spec_zmtp.specs.declared.handshake.Stage.{Stage}
use Rattle.spec_zmtp.specs.FrameFlags.{flags_at}
use Rattle.spec_zmtp.specs.Handshake.{is_running}
use Rattle.zmtp_frame.specs.declared.step.Step.{Step}
use Rattle.zmtp_frame.specs.declared.step.Step.TheVariants.{NeedMore, Head, Piece, FrameEnd, TooLong}
use Rattle.zmtp_frame.specs.declared.step.Step.TheVariants as step

-- of a message frame
abbrev pub message_verdict : Stage → List (List ℕ) → Option Cause
message_verdict stage parts = if is_running stage then (if length parts == max_committed then Some TooManyParts else None) else Some OutOfOrder

-- of a frame of this kind
abbrev pub kind_verdict : Stage → List (List ℕ) → FrameKind → Option Cause
kind_verdict stage parts Command = if length parts == 0 then None else Some OutOfOrder
kind_verdict stage parts Last = message_verdict stage parts
kind_verdict stage parts More = message_verdict stage parts

-- of these flags
abbrev pub flags_verdict : Stage → List (List ℕ) → Option Flags → Option Cause
flags_verdict stage parts None = Some BadFlags
flags_verdict stage parts (Some flags) = kind_verdict stage parts flags.kind

-- of this octet
abbrev pub octet_verdict : Stage → List (List ℕ) → ℕ → Option Cause
octet_verdict stage parts octet = flags_verdict stage parts (flags_at octet)

-- a whole head has the kind that its flags octet says
abbrev pub IsToldOf : Step → ℕ → Type 0
IsToldOf NeedMore octet = Unit {0}
IsToldOf (Head kind size) octet = (flags : Flags) × (flags_at octet ≡ Some flags) × (flags.kind ≡ kind)
IsToldOf (Piece from to) octet = Unit {0}
IsToldOf FrameEnd octet = Unit {0}
IsToldOf (step.BadFlags flags) octet = Unit {0}
IsToldOf (TooLong size) octet = Unit {0}
