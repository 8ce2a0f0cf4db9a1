-- Trees of three objects from which a test goes on (own choice).
use Rattle.std.specs.Prelude.{true, false, List, [], ◌∷◌}
use Rattle.zq_base.specs.declared.kind.Kind.TheVariants.{Push}
use Rattle.spec_control.specs.declared.object.ObjKind.TheVariants.{Socket, Session}
use Rattle.spec_control.specs.declared.stage.Stage.TheVariants.{Ending}
use Rattle.own_tree.specs.declared.row.Row.{Row}
use Rattle.own_tree.specs.Changes.{root_row, made_row}

-- the root, whose mailbox is the first
abbrev pub root : Row
root = root_row (record { 0 = 0 })

-- a socket of the root
abbrev pub socket : Row
socket = made_row (record { 0 = 0 }) (Socket Push) (record { 0 = 1 }) false

-- a session of the socket
abbrev pub session : Row
session = made_row (record { 0 = 1 }) Session (record { 0 = 2 }) true

-- the three were made, and the session's Own is in flight
abbrev pub made : List Row
made = root ∷ record socket { sent = 1 } ∷ session ∷ []

-- the root and the socket were asked to end, and the socket has processed the session's Own
abbrev pub asked : List Row
asked =
    record root { owed = 1; stage = Ending }
    ∷ record socket { sent = 1; processed = 1; stage = Ending }
    ∷ record session { noted = true }
    ∷ []
