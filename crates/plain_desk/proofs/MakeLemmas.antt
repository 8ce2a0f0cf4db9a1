-- Which events make no object, and what they leave of the options of the sockets.
use Rattle.std.specs.Prelude.{◌≡◌, ◌<◌, ◌≤◌, ◌+◌, ◌++◌, ◌∷◌, [], ℕ, false, List, Option, Some, None, length, slice_index_or, refl}
use Rattle.std.specs.List.{list_any}
use Rattle.std.proofs.Common.{arith, sym, ap, ◌∙◌, subst, inl, inr}
use Rattle.std.proofs.Math.ListN.{get_or-append}
use Rattle.std.proofs.lemmas.Bool.{cases_lt}
use Rattle.std.proofs.lemmas.List.{get_or_push, length-append}
use Rattle.zq_base.specs.declared.endpoint.Address.{Address}
use Rattle.zq_base.specs.declared.endpoint.Endpoint.TheVariants.{Inproc, Tcp}
use Rattle.zq_base.specs.declared.ids.EndId.{EndId}
use Rattle.zq_base.specs.declared.ids.ObjId.{ObjId}
use Rattle.zq_base.specs.declared.kind.Kind.{Kind}
use Rattle.zq_base.specs.declared.options.Options.{Options}
use Rattle.spec_control.specs.declared.book.Binding.{Binding}
use Rattle.spec_control.specs.declared.book.Waiting.{Waiting}
use Rattle.spec_control.specs.declared.end.Reason.{Reason}
use Rattle.spec_control.specs.declared.end.Reason.TheVariants.{Closed, BadId, Second, Linger, Link}
use Rattle.spec_control.specs.declared.entry.Answered.{Answered}
use Rattle.spec_control.specs.declared.entry.Did.{Did}
use Rattle.spec_control.specs.declared.entry.Did.TheVariants.{Asked}
use Rattle.spec_control.specs.declared.request.Req.{Req}
use Rattle.spec_control.specs.declared.request.Req.TheVariants.{Socket as MakeSocket, Bind, Connect, Accepted, AskEnd}
use Rattle.spec_control.specs.declared.request.Reply.{Reply}
use Rattle.spec_control.specs.declared.request.Reply.TheVariants.{Done, Object, Pair, Both, Wait, Asked as WasAsked, Before, Refused}
use Rattle.spec_control.specs.Row.{Row, nobody}
use Rattle.spec_control.specs.Rows.{obj}
use Rattle.spec_control.specs.Register.{fulfilled_by}
use Rattle.spec_control.specs.Control.{Control, next_object, next_pair}
use Rattle.spec_control.specs.After.{Answers, accepted_row, after, answers_in, binding_by, listener_row, requested, session_row, socket_row}
use Rattle.spec_control.specs.ControlRun.{Fits, unless_refused}
use Rattle.control_laws.specs.Kept.{Kept}
use Rattle.control_laws.specs.Move.{Move}
use Rattle.control_laws.specs.OwnMoves.{own_moves, connect_moves, fulfil_moves, request_moves}
use Rattle.ctl_moves.specs.Papers.{HasMarks}
use Rattle.control_laws.proofs.HeldRowLemmas.{event_count, event_keeps, makes_object}
use Rattle.plain_desk.specs.Lent.{HaveMarks, made_at_most}
use Rattle.control_laws.proofs.SlotLemmas.{dial_closed, dial_objects, dial_slots, dial_workers}

-- ---- requests that make none
pub unless_none : (reply : Reply) (ms : List Move) → list_any makes_object ms ≡ false → list_any makes_object (unless_refused reply ms) ≡ false
unless_none Done ms none = none
unless_none (Object o) ms none = none
unless_none (Pair p) ms none = none
unless_none (Both o p) ms none = none
unless_none Wait ms none = none
unless_none WasAsked ms none = none
unless_none Before ms none = refl
unless_none (Refused refusal) ms none = refl

fulfil_none : (c : Control) (i k : ℕ) (ws : List Waiting) → list_any makes_object (fulfil_moves c i k ws) ≡ false
fulfil_none c i k [] = refl
fulfil_none c i k (w ∷ ws) = fulfil_none c i (k + 1) ws

pub bind_none : (c : Control) (i : ℕ) (name : List ℕ) (reply : Reply) → list_any makes_object (unless_refused reply (fulfil_moves c i (next_pair c) (fulfilled_by (Inproc name) (binding_by i c) c.names))) ≡ false
bind_none c i name reply = unless_none reply _ (fulfil_none c i (next_pair c) (fulfilled_by (Inproc name) (binding_by i c) c.names))

connect_makes : (c : Control) (i : ℕ) (held : Option Binding) → list_any makes_object (connect_moves c i held) ≡ false
connect_makes c i None = refl
connect_makes c i (Some binding) = refl

pub connect_none : (c : Control) (i : ℕ) (name : List ℕ) (reply : Reply) → list_any makes_object (unless_refused reply (connect_moves c i (c.names.held (Inproc name)))) ≡ false
connect_none c i name reply = unless_none reply _ (connect_makes c i (c.names.held (Inproc name)))

pub ends_none : (c : Control) (e : EndId) (reason : Reason) → list_any makes_object (request_moves c (AskEnd e reason)) ≡ false
ends_none c e Closed = refl
ends_none c e BadId = refl
ends_none c e Second = refl
ends_none c e Linger = refl
ends_none c e Link = refl

-- ---- what they leave
pub marks_of : (o p : Row) → p.options ≡ o.options → HasMarks o → HasMarks p
marks_of o p same has = record {
  some_out = subst (λ (x : Options). 1 ≤ x.hwm) (sym same) has.some_out;
  few_out = subst (λ (x : Options). x.hwm ≤ 10000) (sym same) has.few_out;
  some_in = subst (λ (x : Options). 1 ≤ x.rcvhwm) (sym same) has.some_in;
  few_in = subst (λ (x : Options). x.rcvhwm ≤ 10000) (sym same) has.few_in;
}

pub marks_stay : {N S : Type 0} (c : Control) (did : Did N S) → Kept c → Fits c did → list_any makes_object (own_moves c did) ≡ false → HaveMarks c → HaveMarks (after did c)
marks_stay c did kept fits none all i above within =
    let count = event_count c did kept fits none in
    let there : i < next_object c = omega (arith, count, within) in
    marks_of (obj c.rows i) (obj (after did c).rows i) (event_keeps c did kept fits i there).options (all i above there)

-- ---- an object that is made
-- an event made this object, and closed no socket
pub record MakesRow (row : Row) (c d : Control) : Type 0 where
  pub rows : d.rows.objects ≡ c.rows.objects ++ row ∷ []
  pub slots : d.slots ≡ c.slots + 1
  pub workers : d.workers ≡ c.workers
  pub closed : d.closed ≡ c.closed

-- there is one more
pub made_count : (row : Row) (c d : Control) → MakesRow row c d → next_object d ≡ next_object c + 1
made_count row c d made = ap (λ (os : List Row). length os) made.rows ∙ length-append c.rows.objects (row ∷ [])

-- what is so behind a request that was done, and where nothing happened, is so whatever was answered
pub either_done : {N S : Type 0} (req : Req) (h : Answered N S) (c : Control) (P : Control → Type 0) (reply : Reply) → (1 ≤ made_at_most reply → P (requested req (answers_in h) c)) → P c → P (after (Asked req reply h) c)
either_done req h c P Done done none = done (omega arith)
either_done req h c P (Object o) done none = done (omega arith)
either_done req h c P (Pair p) done none = done (omega arith)
either_done req h c P (Both o p) done none = done (omega arith)
either_done req h c P Wait done none = done (omega arith)
either_done req h c P WasAsked done none = done (omega arith)
either_done req h c P Before done none = none
either_done req h c P (Refused refusal) done none = none

module _ (h : Answers) (c : Control) where
  pub socket_made : (kind : Kind) (options : Options) → MakesRow (socket_row kind options c) c (requested (MakeSocket kind options) h c)
  socket_made kind options = record { rows = refl; slots = refl; workers = refl; closed = refl }

  pub listener_made : (o : ObjId) (address : Address) → MakesRow (listener_row o.0 c) c (requested (Bind o (Tcp address)) h c)
  listener_made o address = record { rows = refl; slots = refl; workers = refl; closed = refl }

  pub session_made : (o : ObjId) (address : Address) → MakesRow (session_row o.0 c) c (requested (Connect o (Tcp address)) h c)
  session_made o address = record {
    rows = dial_objects o.0 address h c;
    slots = dial_slots o.0 address h c;
    workers = dial_workers o.0 address h c;
    closed = dial_closed o.0 address h c;
  }

  pub accepted_made : (o : ObjId) → MakesRow (accepted_row o.0 c) c (requested (Accepted o) h c)
  accepted_made o = record { rows = refl; slots = refl; workers = refl; closed = refl }

pub pushed_marks : (c : Control) (row : Row) (d : Control) → d.rows.objects ≡ c.rows.objects ++ row ∷ [] → HasMarks row → HaveMarks c → HaveMarks d
pushed_marks c row d rows its all i above within = elim (cases_lt i (next_object c)) [
  | inl below ↦ subst HasMarks (sym (row_at ∙ get_or-append c.rows.objects (row ∷ []) nobody i below)) (all i above below)
  | inr past ↦
      let count = ap (λ (os : List Row). length os) rows ∙ length-append c.rows.objects (row ∷ []) in
      let at : next_object c ≡ i = omega (arith, count, within, past) in
      subst HasMarks (sym (row_at ∙ get_or_push c.rows.objects row nobody i at)) its
]
  where
    row_at : obj d.rows i ≡ slice_index_or (c.rows.objects ++ row ∷ []) i nobody
    row_at = ap (λ (os : List Row). slice_index_or os i nobody) rows
