-- What each call changes in the rows of a context's objects.
use Rattle.std.specs.Prelude.{◌+◌, ◌-◌, ℕ, Bool, true, not, cond, List, [], ◌∷◌, ◌++◌, Some, None, slice_set, ◌==◌}
use Rattle.zq_base.specs.declared.ids.ObjId.{ObjId}
use Rattle.zq_base.specs.declared.ids.SlotId.{SlotId}
use Rattle.spec_control.specs.declared.object.ObjKind.{ObjKind}
use Rattle.spec_control.specs.declared.object.ObjKind.TheVariants.{Root, Socket, Listener, Session}
use Rattle.spec_control.specs.declared.stage.Stage.{Stage}
use Rattle.spec_control.specs.declared.stage.Stage.TheVariants.{Alive, Told, Cleared}
use Rattle.spec_control.specs.declared.stage.Use.{Use}
use Rattle.spec_control.specs.declared.stage.Use.TheVariants.{Unused, Used}
use Rattle.own_tree.specs.declared.row.Row.{Row}
use Rattle.own_tree.specs.Rows.{row_at}

-- the rows with this one changed
abbrev pub change : (Row → Row) → ObjId → List Row → List Row
change f id rows = slice_set rows id.0 (f (row_at rows id))

abbrev pub in_stage : Stage → Row → Row
in_stage stage row = record row { stage = stage }

-- its asking to end is on its way, or was processed
abbrev pub with_request : Use → Row → Row
with_request request row = record row { request = request }

-- a PipeBind more is on its way
abbrev pub with_bind_sent : Row → Row
with_bind_sent row = record row { sent = row.sent + 1; binds = row.binds + 1 }

-- a PipeBind was processed
abbrev pub with_bind_processed : Row → Row
with_bind_processed row = record row { processed = row.processed + 1; binds = row.binds - 1 }

-- its Plug was processed
abbrev pub as_plugged : Row → Row
as_plugged row = record row { processed = row.processed + 1; plugged = true }

-- an end of it is attached
abbrev pub with_end : Row → Row
with_end row = record row { owed = row.owed + 1; ends = row.ends + 1 }

-- an end of it is gone
abbrev pub without_end : Row → Row
without_end row = record row { owed = row.owed - 1; ends = row.ends - 1 }

-- it processed an Own
abbrev pub one_more_processed : Row → Row
one_more_processed row = record row { processed = row.processed + 1 }

-- it waits for an acknowledgement more
abbrev pub one_more_owed : Row → Row
one_more_owed row = record row { owed = row.owed + 1 }

-- it waits for an acknowledgement fewer
abbrev pub one_less_owed : Row → Row
one_less_owed row = record row { owed = row.owed - 1 }

abbrev pub as_noted : Row → Row
as_noted row = record row { noted = true }

-- how many Own announce an object of this kind: a socket is made by the context itself, which knows it
abbrev pub owns_of : ObjKind → ℕ
owns_of Root = 0
owns_of (Socket kind) = 0
owns_of Listener = 1
owns_of Session = 1

-- the root of a context, at its making: it has nobody to ask
abbrev pub root_row : SlotId → Row
root_row slot = record { owner = None; kind = Root; slot = slot; sent = 0; processed = 0; binds = 0; owed = 0; ends = 0; noted = true; plugged = true; request = Used; stage = Alive }

-- an object at its making, to which a Plug is sent or none
abbrev pub made_row : ObjId → ObjKind → SlotId → Bool → Row
made_row owner kind slot plug = record {
  owner = Some owner;
  kind = kind;
  slot = slot;
  sent = cond plug 1 0;
  processed = 0;
  binds = 0;
  owed = 0;
  ends = 0;
  noted = owns_of kind == 0;
  plugged = not plug;
  request = Unused;
  stage = Alive;
}

-- an owner whose child was made, with the Own that is sent to it
abbrev pub with_own : ObjKind → Row → Row
with_own kind row = record row { sent = row.sent + owns_of kind }

-- the rows with an object more
abbrev pub with_made : ObjId → ObjKind → SlotId → Bool → List Row → List Row
with_made owner kind slot plug rows =
    change (with_own kind) owner rows ++ made_row owner kind slot plug ∷ []

-- the rows where an owner processed the Own of this child
abbrev pub with_noted : ObjId → ObjId → List Row → List Row
with_noted owner child rows = change one_more_processed owner (change as_noted child rows)

-- the rows where this child was told to end, and its owner waits for the acknowledgement
abbrev pub with_told : ObjId → ObjId → List Row → List Row
with_told owner child rows = change one_more_owed owner (change (in_stage Told) child rows)

-- the rows where an owner processed the TermAck of this child
abbrev pub with_cleared : ObjId → ObjId → List Row → List Row
with_cleared owner child rows = change one_less_owed owner (change (in_stage Cleared) child rows)
