-- Requests over inproc make sockets alone.
use Rattle.std.specs.Prelude.{◌≡◌, ◌&&◌, ℕ, zero, suc, Bool, true, false, List, [], ◌∷◌, ◌++◌, refl}
use Rattle.std.proofs.Common.{sym, ap, ◌∙◌, subst, append-nil}
use Rattle.std.specs.List.{list_all}
use Rattle.zq_base.specs.declared.endpoint.Endpoint.TheVariants.{Inproc, Tcp}
use Rattle.spec_control.specs.declared.end.Reason.TheVariants.{Closed, BadId, Second, Linger, Link}
use Rattle.spec_control.specs.declared.object.ObjKind.{ObjKind}
use Rattle.spec_control.specs.declared.request.Req.{Req}
use Rattle.spec_control.specs.declared.request.Req.TheVariants.{Socket as MakeSocket, AskTerm, Bind, Connect, Unbind, Disconnect, Close, Accepted, Shaken, AskEnd, AskOver, OutputOver}
use Rattle.spec_control.specs.declared.request.Reply.{Reply}
use Rattle.spec_control.specs.declared.request.Reply.TheVariants.{Done, Object, Pair, Both, Wait, Asked as WasAsked, Before, Refused}
use Rattle.spec_control.specs.declared.entry.Did.{Did}
use Rattle.spec_control.specs.declared.entry.Did.TheVariants.{Asked, Delivered, Delimited}
use Rattle.spec_control.specs.declared.entry.Item.{Item}
use Rattle.spec_control.specs.declared.entry.Item.TheVariants.{Event, Seen}
use Rattle.spec_control.specs.Register.{fulfilled_by}
use Rattle.spec_control.specs.Row.{Row, nobody, is_session, is_listener}
use Rattle.spec_control.specs.Control.{Control, begun, next_pair}
use Rattle.spec_control.specs.After.{binding_by, socket_row, after}
use Rattle.spec_control.specs.ControlRun.{unless_refused, after_all, IsControlRun}
use Rattle.control_laws.proofs.ListLemmas.{never, Pushed, pushed, is_old, is_new}
use Rattle.control_laws.specs.Kept.{Kept}
use Rattle.control_laws.proofs.RootLemmas.{begun_kept}
use Rattle.control_laws.proofs.RunLemmas.{after_kept}
use Rattle.control_laws.specs.OwnMoves.{own_moves, request_moves}
use Rattle.replay_laws.specs.Local.{is_local, is_local_did, is_local_item, LocalRunsHaveSocketsAlone}
use Rattle.replay_laws.proofs.QuietLemmas.{IsQuiet, did_quiet}
use Rattle.replay_laws.proofs.SlotLemmas.{Mark, mark, marks, mark_in, mark_of, marks_after, made, fulfils_none, connects_none, word_makes_none}

-- a kind that tcp does not make
record IsPlain (kind : ObjKind) : Type 0 where
  session : is_session kind ≡ false
  listener : is_listener kind ≡ false

abbrev ArePlain : List Mark → Type 0
ArePlain ms = (i : ℕ) → IsPlain (mark_in ms i).kind

-- what a request over inproc makes: nothing, or a socket
data MakesPlain (rows : List Row) : Type 0 where
  nothing : rows ≡ [] → MakesPlain rows
  one : (row : Row) → rows ≡ row ∷ [] → IsPlain row.kind → MakesPlain rows

makes_plain : (c : Control) (req : Req) → is_local req ≡ true → MakesPlain (made (request_moves c req))
makes_plain c (MakeSocket kind options) h = one (socket_row kind options c) refl (record { session = refl; listener = refl })
makes_plain c AskTerm h = nothing refl
makes_plain c (Bind o (Inproc name)) h = nothing (fulfils_none c o.0 (next_pair c) (fulfilled_by (Inproc name) (binding_by o.0 c) c.names))
makes_plain c (Bind o (Tcp address)) h = absurd (never h)
makes_plain c (Connect o (Inproc name)) h = nothing (connects_none c o.0 (c.names.held (Inproc name)))
makes_plain c (Connect o (Tcp address)) h = absurd (never h)
makes_plain c (Unbind o at) h = nothing refl
makes_plain c (Disconnect o at) h = nothing refl
makes_plain c (Close o) h = nothing refl
makes_plain c (Accepted o) h = absurd (never h)
makes_plain c (Shaken o peer) h = nothing refl
makes_plain c (AskEnd e Closed) h = nothing refl
makes_plain c (AskEnd e BadId) h = nothing refl
makes_plain c (AskEnd e Second) h = nothing refl
makes_plain c (AskEnd e Linger) h = nothing refl
makes_plain c (AskEnd e Link) h = nothing refl
makes_plain c (AskOver o) h = nothing refl
makes_plain c (OutputOver o) h = nothing refl

answered_plain : (c : Control) (req : Req) (reply : Reply) → is_local req ≡ true → MakesPlain (made (unless_refused reply (request_moves c req)))
answered_plain c req Done h = makes_plain c req h
answered_plain c req (Object o) h = makes_plain c req h
answered_plain c req (Pair p) h = makes_plain c req h
answered_plain c req (Both o p) h = makes_plain c req h
answered_plain c req Wait h = makes_plain c req h
answered_plain c req WasAsked h = makes_plain c req h
answered_plain c req Before h = nothing refl
answered_plain c req (Refused refusal) h = nothing refl

more_plain : (ms : List Mark) (rows : List Row) → MakesPlain rows → ArePlain ms → ArePlain (ms ++ marks rows)
more_plain ms rows (nothing e) all = subst (λ r. ArePlain (ms ++ marks r)) (sym e) (subst ArePlain (sym (append-nil ms)) all)
more_plain ms rows (one row e is) all = subst (λ r. ArePlain (ms ++ marks r)) (sym e) (λ i. by i (pushed ms (mark row) (mark nobody) i))
  where
    by : (i : ℕ) → Pushed ms (mark row) (mark nobody) i → IsPlain (mark_in (ms ++ mark row ∷ []) i).kind
    by i (is_old same) = subst (λ (m : Mark). IsPlain m.kind) (sym same) (all i)
    by i (is_new here now was) = subst (λ (m : Mark). IsPlain m.kind) (sym now) is

both : (a b : Bool) → (a && b) ≡ true → (a ≡ true) × (b ≡ true)
both true b e = (refl, e)
both false b e = absurd (never e)

module _ {N S : Type 0} where
  did_plain : (c : Control) (did : Did N S) → is_local_did did ≡ true → MakesPlain (made (own_moves c did))
  did_plain c (Asked req reply h) local_so = answered_plain c req reply local_so
  did_plain c (Delivered slot letter h) local_so = nothing (word_makes_none letter.to.0 letter.word)
  did_plain c (Delimited e h) local_so = nothing refl

  plain_over : (items : List (Item N S)) (c : Control) → Kept c → ArePlain (marks c.rows.objects) → IsControlRun c items → list_all is_local_item items ≡ true → ArePlain (marks (after_all items c).rows.objects)
  plain_over [] c kept plain run local_so = plain
  plain_over (Event entry ∷ items) c kept plain run local_so =
      let two = both (is_local_did entry.did) (list_all is_local_item items) local_so in
      plain_over items (after entry.did c) (after_kept c entry.did kept run.0)
      (subst ArePlain (sym (marks_after c entry.did kept run.0)) (more_plain (marks c.rows.objects) (made (own_moves c entry.did)) (did_plain c entry.did two.0) plain)) run.1 two.1
  plain_over (Seen sight ∷ items) c kept plain run local_so = plain_over items c kept plain run.1 local_so

module _ {N S : Type 0} where
  quiet_over : (items : List (Item N S)) (c : Control) → Kept c → ArePlain (marks c.rows.objects) → IsQuiet c → IsControlRun c items → list_all is_local_item items ≡ true → IsQuiet (after_all items c)
  quiet_over [] c kept plain quiet run local_so = quiet
  quiet_over (Event entry ∷ items) c kept plain quiet run local_so =
      let two = both (is_local_did entry.did) (list_all is_local_item items) local_so in
      quiet_over items (after entry.did c) (after_kept c entry.did kept run.0)
      (subst ArePlain (sym (marks_after c entry.did kept run.0)) (more_plain (marks c.rows.objects) (made (own_moves c entry.did)) (did_plain c entry.did two.0) plain))
      (did_quiet c entry.did run.0 (λ i. ap (λ (m : Mark). is_session m.kind) (sym (mark_of c.rows i)) ∙ (plain i).session) quiet) run.1 two.1
  quiet_over (Seen sight ∷ items) c kept plain quiet run local_so = quiet_over items c kept plain quiet run.1 local_so

begun_plain : (workers : ℕ) → ArePlain (marks (begun workers).rows.objects)
begun_plain workers zero = record { session = refl; listener = refl }
begun_plain workers (suc i) = record { session = refl; listener = refl }

pub sockets_alone : (N S : Type 0) → LocalRunsHaveSocketsAlone N S
sockets_alone N S workers items run local_so =
    let c = after_all items (begun workers) in
    let plain = plain_over items (begun workers) (begun_kept workers) (begun_plain workers) run local_so in
    record {
      no_session = λ i. ap (λ (m : Mark). is_session m.kind) (sym (mark_of c.rows i)) ∙ (plain i).session;
      no_listener = λ i. ap (λ (m : Mark). is_listener m.kind) (sym (mark_of c.rows i)) ∙ (plain i).listener;
      no_output = quiet_over items (begun workers) (begun_kept workers) (begun_plain workers) (λ i. refl) run local_so;
    }
