-- Parts of the worked runs.
use Rattle.std.specs.Prelude.{ℕ, Bool, true, List, [], slice_index_or, take}
use Rattle.zq_base.specs.declared.ids.EndId.{EndId}
use Rattle.spec_control.specs.declared.object.ObjKind.{ObjKind}
use Rattle.spec_control.specs.declared.object.ObjState.{ObjState}
use Rattle.spec_control.specs.declared.object.ObjState.TheVariants.{Live}
use Rattle.spec_control.specs.declared.letter.Word.{Word}
use Rattle.spec_control.specs.declared.request.Req.{Req}
use Rattle.spec_control.specs.declared.request.Reply.{Reply}
use Rattle.spec_control.specs.declared.entry.Answered.{Answered}
use Rattle.spec_control.specs.declared.entry.Did.TheVariants.{Asked, Delivered, Delimited}
use Rattle.spec_control.specs.declared.entry.SeenEmpty.{SeenEmpty}
use Rattle.spec_control.specs.declared.entry.SeenEmpty.TheVariants.{Nothing}
use Rattle.spec_control.specs.declared.entry.Item.{Item}
use Rattle.spec_control.specs.declared.entry.Item.TheVariants.{Event, Seen}
use Rattle.spec_control.specs.Control.{begun, id}
use Rattle.spec_control.specs.ControlRun.{after_all}
use Rattle.spec_control.specs.Moments.{Moment}
use Rattle.spec_run.specs.declared.answer.Answer.{Answer}
use Rattle.spec_run.specs.declared.journal.Entry.{Entry}
use Rattle.spec_run.specs.declared.journal.ObjectLine.{ObjectLine}
use Rattle.spec_run.specs.declared.journal.ObjectRow.{ObjectRow}
use Rattle.spec_run.specs.declared.script.Call.{Call}
use Rattle.spec_run.specs.declared.script.Line.{Line}
use Rattle.spec_run.specs.Act.{Act, Try, Deed}
use Rattle.spec_run.specs.InTurns.{OneTurn}

-- items of a caller: a request, a letter taken, a delimiter met, a look
abbrev pub item_asked : (by : ℕ) → Req → Reply → Answered ℕ ℕ → Item ℕ ℕ
item_asked by req reply h = Event (record { by = by; did = Asked req reply h })

abbrev pub item_taken : (by slot to : ℕ) → Word → Answered ℕ ℕ → Item ℕ ℕ
item_taken by slot to word h = Event (record { by = by; did = Delivered (record { 0 = slot }) (record { to = id to; word = word }) h })

abbrev pub item_met : (by : ℕ) → EndId → Answered ℕ ℕ → Item ℕ ℕ
item_met by e h = Event (record { by = by; did = Delimited e h })

abbrev pub item_seen : (by : ℕ) → SeenEmpty → ObjState → (live : ℕ) → Item ℕ ℕ
item_seen by empty root live = Seen (record { by = by; empty = empty; root = root; live = live; room = true })

-- the item of this place in an order, with what it found
abbrev pub moment : List (Item ℕ ℕ) → ℕ → Moment ℕ ℕ
moment order k = record { found = after_all (take k order) (begun 1); item = slice_index_or order k (item_seen 0 Nothing Live 0) }

-- a line that was over at its first try and dropped nothing
abbrev pub over_at : Line → (pump call : List (Act ℕ ℕ)) → Answer → Try ℕ ℕ
over_at line pump call answer = record { line = line; pump = pump; call = call; skips = []; told = []; answer = answer; over = true }

abbrev pub line_nr : ℕ → Call → Line
line_nr number call = record { number = number; call = call }

abbrev pub turn_of : (begins : List (Deed ℕ ℕ)) → (steps : List (List (Deed ℕ ℕ))) → (reading : ℕ) → OneTurn ℕ ℕ
turn_of begins steps reading = record { begins = begins; steps = steps; reading = reading }

abbrev pub entry_nr : ℕ → Answer → Entry
entry_nr line answer = record { line = line; answer = answer; skips = [] }

abbrev pub line_of_object : ℕ → ObjKind → ObjectLine
line_of_object n kind = record { object = id n; kind = kind }

abbrev pub row_of_object : ObjKind → (ended : Bool) → ObjectRow
row_of_object kind ended = record { kind = kind; ended = ended }
