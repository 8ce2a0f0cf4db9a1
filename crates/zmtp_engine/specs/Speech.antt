-- How much a side says in a handshake (RFC 23, "The NULL Security Mechanism"; RFC 24).
use Rattle.std.specs.Prelude.{◌≤◌, List, length, All}
use Rattle.spec_zmtp.specs.declared.command.Command.{Command}
use Rattle.zmtp_mech.specs.Mechanism.{IsSayable}

-- at most two commands, each of which can be said
abbrev pub IsModest : List Command → Type 0
IsModest commands = (length commands ≤ 2) × All IsSayable commands
