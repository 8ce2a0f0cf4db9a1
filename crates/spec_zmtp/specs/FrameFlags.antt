-- The flags octet of a frame, and the greatest size of a frame's body (RFC 23, "Framing"; the limits are own choice).
use Rattle.std.specs.Prelude.{ℕ, ◌+◌, ◌==◌, Bool, true, false, if◌then◌else◌, Option, Some, None}
use Rattle.spec_zmtp.specs.declared.flags.FrameKind.{FrameKind}
use Rattle.spec_zmtp.specs.declared.flags.FrameKind.TheVariants.{Last, More, Command}
use Rattle.spec_zmtp.specs.declared.flags.Flags.{Flags}

-- bit 0: further frames of the message follow; bit 2: the frame is a command
abbrev pub kind_bits : FrameKind → ℕ
kind_bits Last = 0
kind_bits More = 1
kind_bits Command = 4

-- bit 1: the size has eight octets
abbrev pub long_bit : Bool → ℕ
long_bit long = if long then 2 else 0

-- the flags octet of a frame of this kind; bits 3 to 7 are zero
abbrev pub flags_octet : FrameKind → Bool → ℕ
flags_octet kind long = kind_bits kind + long_bit long

-- what is said by a flags octet; one that sets a bit above 2, or both MORE and COMMAND, says nothing
abbrev pub flags_at : ℕ → Option Flags
flags_at octet =
    if octet == 0 then Some (record { kind = Last; long = false }) else
    if octet == 1 then Some (record { kind = More; long = false }) else
    if octet == 2 then Some (record { kind = Last; long = true }) else
    if octet == 3 then Some (record { kind = More; long = true }) else
    if octet == 4 then Some (record { kind = Command; long = false }) else
    if octet == 6 then Some (record { kind = Command; long = true }) else None

-- the greatest size of a frame's body
abbrev pub limit : FrameKind → ℕ
limit Last = 16777216
limit More = 16777216
limit Command = 65536
