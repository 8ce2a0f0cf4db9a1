-- The text of a journal (own format).
use Rattle.std.specs.Prelude.{◌+◌, ℕ, List, [], ◌∷◌, ◌++◌, Bool, true, false, Option, Some, None, nat_eq, if◌then◌else◌, codes, decimal, flat_map}
use Rattle.zq_base.specs.Kind.{kind_name}
use Rattle.zq_base.specs.declared.ids.ObjId.{ObjId}
use Rattle.spec_control.specs.declared.end.Reason.{Reason}
use Rattle.spec_control.specs.declared.end.Reason.TheVariants.{Closed, BadId, Second, Linger, Link}
use Rattle.spec_control.specs.declared.object.ObjKind.{ObjKind}
use Rattle.spec_control.specs.declared.object.ObjKind.TheVariants.{Root, Socket, Listener, Session}
use Rattle.spec_control.specs.Control.{id}
use Rattle.spec_run.specs.declared.journal.PipeRow.{PipeRow}
use Rattle.spec_run.specs.Text.{answer_text, skips_text, pipe_text}
use Rattle.spec_run.specs.declared.journal.Entry.{Entry}
use Rattle.spec_run.specs.declared.journal.ActorLines.{ActorLines}
use Rattle.spec_run.specs.declared.journal.ObjectLine.{ObjectLine}
use Rattle.spec_run.specs.declared.journal.ObjectRow.{ObjectRow}
use Rattle.spec_run.specs.declared.journal.SettledRow.{SettledRow}
use Rattle.spec_run.specs.declared.journal.Journal.{Journal}

abbrev pub object_text : ObjId → List ℕ
object_text o = codes "o" ++ decimal o.0

-- a line of an actor: its name, the line's number, the answer, the messages dropped
abbrev pub entry_text : List ℕ → Entry → List ℕ
entry_text name e = name ++ codes " " ++ decimal e.line ++ codes " " ++ answer_text e.answer ++ skips_text e.skips ++ codes "\n"

abbrev pub actor_lines_text : ActorLines → List ℕ
actor_lines_text actor = flat_map (entry_text actor.name) actor.entries

-- what an object is
abbrev pub object_kind_text : ObjKind → List ℕ
object_kind_text Root = codes "ctx"
object_kind_text (Socket kind) = kind_name kind
object_kind_text Listener = codes "LISTENER"
object_kind_text Session = codes "SESSION"

-- an object that has ended, and one that lives
abbrev pub ended_text : ObjectLine → List ℕ
ended_text o = codes "end " ++ object_text o.object ++ codes " " ++ object_kind_text o.kind ++ codes "\n"

abbrev pub live_text : ObjectLine → List ℕ
live_text o = codes "live " ++ object_text o.object ++ codes " " ++ object_kind_text o.kind ++ codes "\n"

abbrev pub why_text : Reason → List ℕ
why_text Closed = codes "closed"
why_text BadId = codes "badid"
why_text Second = codes "second"
why_text Linger = codes "linger"
why_text Link = codes "link"

abbrev pub why_optional_text : Option Reason → List ℕ
why_optional_text None = codes "-"
why_optional_text (Some reason) = why_text reason

-- why messages are left, where some are
abbrev pub rest_text : ℕ → Option Reason → List ℕ
rest_text rest reason = if nat_eq rest 0 then codes "-" else why_optional_text reason

abbrev pub counts_text : PipeRow → List ℕ
counts_text r = codes "pipe " ++ pipe_text r.pipe
    ++ codes " sent " ++ decimal r.sent
    ++ codes " given " ++ decimal r.given
    ++ codes " heard " ++ decimal r.heard
    ++ codes " dropped " ++ decimal r.dropped
    ++ codes " written " ++ decimal r.written
    ++ codes " lost " ++ decimal r.lost
    ++ codes " rest " ++ decimal r.rest

abbrev pub settled_row_text : SettledRow → List ℕ
settled_row_text row = counts_text row.counts ++ codes " " ++ rest_text row.counts.rest row.reason ++ codes "\n"

-- a pipe that was not settled is not shown
abbrev pub pipe_slot_text : Option SettledRow → List ℕ
pipe_slot_text None = []
pipe_slot_text (Some row) = settled_row_text row

-- the objects that live, of those from this number on
abbrev pub living_text : ℕ → List ObjectRow → List ℕ
living_text n [] = []
living_text n (o ∷ os) = if o.ended then living_text (n + 1) os else live_text (record { object = id n; kind = o.kind }) ++ living_text (n + 1) os

-- how the run ended: done, or with what lives
abbrev pub over_text : Bool → List ObjectRow → List ℕ
over_text true objects = codes "done\n"
over_text false objects = living_text 0 objects ++ codes "unfinished\n"

-- the text of a journal: each actor's answers, the objects that ended, the settled pipes, and how the run ended
abbrev pub journal_text : Journal → List ℕ
journal_text j = flat_map actor_lines_text j.actors ++ flat_map ended_text j.ended ++ flat_map pipe_slot_text j.pipes ++ over_text j.done j.objects
