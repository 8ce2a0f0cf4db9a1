-- How many entries the history of a control run may still get for the endings of what there is, and how many more for what a request makes (own choice).
use Rattle.std.specs.Prelude.{◌≤◌, ◌+◌, ◌*◌, ℕ, Bool, true, false, cond, List, length, sum_by, is_some}
use Rattle.zq_base.specs.declared.endpoint.Endpoint.TheVariants.{Inproc, Tcp}
use Rattle.spec_control.specs.declared.end.EndState.TheVariants.{Active, DelimiterGot, WaitDelimiter, AckSent, AskedOnce, AskedTwice, Gone}
use Rattle.spec_control.specs.declared.request.Req.{Req}
use Rattle.spec_control.specs.declared.request.Req.TheVariants.{Socket as MakeSocket, AskTerm, Bind, Connect, Unbind, Disconnect, Close, Accepted, Shaken, AskEnd, AskOver, OutputOver}
use Rattle.spec_control.specs.declared.entry.Did.{Did}
use Rattle.spec_control.specs.declared.entry.Did.TheVariants.{Asked, Delivered, Delimited}
use Rattle.spec_control.specs.declared.entry.Item.{Item}
use Rattle.spec_control.specs.Register.{fulfilled_by}
use Rattle.spec_control.specs.Place.{Place, Unmade, Away, At}
use Rattle.spec_control.specs.Row.{Row, StopPut, link_may}
use Rattle.spec_control.specs.Rows.{Rows, PairRow}
use Rattle.spec_control.specs.Control.{Control, begun}
use Rattle.spec_control.specs.After.{binding_by, after}
use Rattle.spec_control.specs.ControlRun.{Fits, after_all, IsControlRun}
use Rattle.spec_control.specs.Quiescence.{object_tokens, pair_tokens, reply_costs}

-- whether an end may still meet a delimiter
abbrev pub delimiters_left : Place → ℕ
delimiters_left Unmade = 1
delimiters_left Away = 1
delimiters_left (At Active) = 1
delimiters_left (At DelimiterGot) = 0
delimiters_left (At WaitDelimiter) = 1
delimiters_left (At AckSent) = 0
delimiters_left (At AskedOnce) = 0
delimiters_left (At AskedTwice) = 0
delimiters_left (At Gone) = 0

-- an entry for each command that may still be processed for an object, and for each request that it may still make once
abbrev pub row_entries : Row → ℕ
row_entries o = object_tokens o + cond (link_may StopPut o) 1 0

-- and for a pair, with the delimiters that its ends may meet
abbrev pub pair_entries : PairRow → ℕ
pair_entries p = pair_tokens p + (delimiters_left p.a + delimiters_left p.b)

-- how many entries may still come
abbrev pub entries_left : Rows → ℕ
entries_left s = sum_by row_entries s.objects + sum_by pair_entries s.pairs

-- a request that comes once at most of an object or a pair; the others bring the room of their own entry
abbrev pub is_foreseen : Req → Bool
is_foreseen (MakeSocket kind options) = false
is_foreseen AskTerm = true
is_foreseen (Bind o at) = false
is_foreseen (Connect o at) = false
is_foreseen (Unbind o at) = false
is_foreseen (Disconnect o at) = false
is_foreseen (Close o) = true
is_foreseen (Accepted o) = false
is_foreseen (Shaken o peer) = true
is_foreseen (AskEnd e reason) = true
is_foreseen (AskOver o) = true
is_foreseen (OutputOver o) = true

-- 1 where an event's entry is one of those
abbrev pub foreseen_in : {N S : Type 0} → Did N S → ℕ
foreseen_in (Asked req reply h) = cond (is_foreseen req) (reply_costs reply) 0
foreseen_in (Delivered slot letter h) = 1
foreseen_in (Delimited e h) = 1

-- how many further entries a request takes room for: five for a socket, six for a listener, eight for a session and for a pair
abbrev pub entries_made : Control → Req → ℕ
entries_made c (MakeSocket kind options) = 5
entries_made c AskTerm = 0
entries_made c (Bind o (Inproc name)) = 8 * length (fulfilled_by (Inproc name) (binding_by o.0 c) c.names)
entries_made c (Bind o (Tcp address)) = 6
entries_made c (Connect o (Inproc name)) = cond (is_some (c.names.held (Inproc name))) 8 0
entries_made c (Connect o (Tcp address)) = 16
entries_made c (Unbind o at) = 0
entries_made c (Disconnect o at) = 0
entries_made c (Close o) = 0
entries_made c (Accepted o) = 16
entries_made c (Shaken o peer) = 0
entries_made c (AskEnd e reason) = 0
entries_made c (AskOver o) = 0
entries_made c (OutputOver o) = 0

-- none where it is refused
abbrev pub entries_reserved : {N S : Type 0} → Control → Did N S → ℕ
entries_reserved c (Asked req reply h) = reply_costs reply * entries_made c req
entries_reserved c (Delivered slot letter h) = 0
entries_reserved c (Delimited e h) = 0

-- each event whose entry was foreseen leaves one less to come: with so much kept free at each make no ending lacks room in the history
abbrev pub HistoryRoomIsKept : (N S : Type 0) → Type 0
HistoryRoomIsKept N S = (workers : ℕ) (items : List (Item N S)) → IsControlRun (begun workers) items →
    let c = after_all items (begun workers) in (did : Did N S) → Fits c did →
    entries_left (after did c).rows + foreseen_in did ≤ entries_left c.rows + entries_reserved c did
