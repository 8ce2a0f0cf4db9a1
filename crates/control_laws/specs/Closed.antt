-- Of a control state: which sockets may still be closed, which have not ended, and for which of the closed a command waits (own choice).
use Rattle.std.specs.Prelude.{◌&&◌, ℕ, Bool, not, count_by}
use Rattle.zq_base.specs.declared.ids.ObjId.{ObjId}
use Rattle.spec_control.specs.Row.{Row, is_socket}
use Rattle.spec_control.specs.Rows.{obj}
use Rattle.spec_control.specs.Stage.{has_ended, is_unused, is_used}
use Rattle.spec_control.specs.Control.{Control}
use Rattle.spec_control.specs.OwnAsks.{is_none}

-- a socket that was not closed
abbrev pub is_unclosed : Row → Bool
is_unclosed o = is_socket o.kind && is_unused o.request

-- how many there are
abbrev pub unclosed : Control → ℕ
unclosed c = count_by is_unclosed c.rows.objects

-- an object has not ended
abbrev pub lives : Control → ObjId → Bool
lives c o = not (has_ended (obj c.rows o.0).stage)

-- the reaper took a closed socket over, and a command waits in its mailbox
abbrev pub waits : Control → ObjId → Bool
waits c o = is_used (obj c.rows o.0).request && not (is_none (c.boxes (obj c.rows o.0).slot))
