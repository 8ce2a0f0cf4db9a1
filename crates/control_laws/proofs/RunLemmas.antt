-- What is kept after each event of a control run.
use Rattle.std.specs.Prelude.{◌≡◌, ℕ, Bool, true, false, not, List, [], ◌∷◌, Some, None, if◌then◌else◌, refl}
use Rattle.std.proofs.Common.{sym, ap}
use Rattle.zq_base.specs.declared.endpoint.Endpoint.TheVariants.{Inproc, Tcp}
use Rattle.spec_control.specs.declared.letter.Letter.{Letter}
use Rattle.spec_control.specs.declared.letter.Word.{Word}
use Rattle.spec_control.specs.declared.letter.Word.TheVariants.{Own, Plug, TermReq, Term, TermAck, PipeBind, PipeTerm, PipeTermAck, Stop, Reap}
use Rattle.spec_control.specs.declared.request.Req.{Req}
use Rattle.spec_control.specs.declared.request.Req.TheVariants.{Socket as MakeSocket, AskTerm, Bind, Connect, Unbind, Disconnect, Close, Accepted, Shaken, AskEnd, AskOver, OutputOver}
use Rattle.spec_control.specs.declared.request.Refusal.TheVariants.{Term as IsTerm}
use Rattle.spec_control.specs.declared.request.Reply.{Reply}
use Rattle.spec_control.specs.declared.request.Reply.TheVariants.{Done, Object, Pair as PairMade, Both, Wait, Asked, Before, Refused}
use Rattle.spec_control.specs.declared.entry.Did.{Did}
use Rattle.spec_control.specs.declared.entry.Did.TheVariants.{Asked as DidAsk, Delivered, Delimited}
use Rattle.spec_control.specs.declared.entry.Item.{Item}
use Rattle.spec_control.specs.declared.entry.Item.TheVariants.{Event, Seen}
use Rattle.spec_control.specs.Stage.{is_alive}
use Rattle.spec_control.specs.Hold.{is_bind_to, is_connect_to}
use Rattle.spec_control.specs.Rows.{obj}
use Rattle.spec_control.specs.Control.{Control, id}
use Rattle.spec_control.specs.After.{Answers, answers_in, processed, without_front, requested, answered, after}
use Rattle.spec_control.specs.Reply.{unless, before_term, reply_of}
use Rattle.spec_control.specs.ControlRun.{MayAsk, Fits, after_all, IsControlRun}
use Rattle.control_laws.specs.Kept.{Kept}
use Rattle.control_laws.proofs.ListLemmas.{never}
use Rattle.control_laws.proofs.DeliverLemmas.{own_kept, request_kept, ack_kept, reap_kept, plug_kept, stop_kept}
use Rattle.control_laws.proofs.TermLemmas.{term_kept}
use Rattle.control_laws.proofs.EndCommandLemmas.{delimited_kept, pipe_term_kept, pipe_ack_kept}
use Rattle.control_laws.proofs.AttachLemmas.{pipe_bind_kept, plug_end_kept}
use Rattle.control_laws.proofs.RequestLemmas.{open_unasked, close_kept, ask_over_kept, over_ends_kept, ask_end_kept}
use Rattle.control_laws.proofs.StrikeLemmas.{strikes_kept, ask_term_kept}
use Rattle.control_laws.proofs.OpenLemmas.{shaken_kept}
use Rattle.control_laws.proofs.JoinLemmas.{bind_name_kept, connect_name_kept}
use Rattle.control_laws.proofs.MakeLemmas.{socket_kept}
use Rattle.control_laws.proofs.MakeMoreLemmas.{listener_kept}
use Rattle.control_laws.proofs.SessionLemmas.{accepted_kept}
use Rattle.control_laws.proofs.ConnectLemmas.{session_kept}

-- a command is processed
delivered_kept : (c : Control) (slot : ℕ) (to : ℕ) (word : Word) (rest : List Letter) (h : Answers) → Kept c → c.boxes slot ≡ record { to = id to; word = word } ∷ rest → Kept (processed to word h (without_front slot c))
delivered_kept c slot to (Own child) rest h kept is = own_kept c kept slot rest to child h is
delivered_kept c slot to (Plug None) rest h kept is = plug_kept c kept slot rest to h is
delivered_kept c slot to (Plug (Some e)) rest h kept is = plug_end_kept c kept slot rest to e h is
delivered_kept c slot to (TermReq child) rest h kept is = request_kept c kept slot rest to child h is
delivered_kept c slot to Term rest h kept is = term_kept c kept slot rest to h is
delivered_kept c slot to (TermAck child) rest h kept is = ack_kept c kept slot rest to child h is
delivered_kept c slot to (PipeBind e peer) rest h kept is = pipe_bind_kept c kept slot rest to e h peer is
delivered_kept c slot to (PipeTerm e) rest h kept is = pipe_term_kept c kept slot rest to e h is
delivered_kept c slot to (PipeTermAck e) rest h kept is = pipe_ack_kept c kept slot rest to e h is
delivered_kept c slot to Stop rest h kept is = stop_kept c kept slot rest to h is
delivered_kept c slot to (Reap socket) rest h kept is = reap_kept c kept slot rest to socket h is

-- an answer that refuses nothing
abbrev pub is_granted : Reply → Bool
is_granted Done = true
is_granted (Object o) = true
is_granted (PairMade p) = true
is_granted (Both o p) = true
is_granted Wait = true
is_granted Asked = true
is_granted Before = false
is_granted (Refused refusal) = false

-- a request that waits for no root that was asked
pub granted_alive : (c : Control) (reply : Reply) → is_granted (before_term c reply) ≡ true → is_alive (obj c.rows 0).stage ≡ true
granted_alive c reply h = by (is_alive (obj c.rows 0).stage) reply h
  where
    by : (x : Bool) (reply : Reply) → is_granted (unless (not x) IsTerm reply) ≡ true → x ≡ true
    by true reply h = refl
    by false reply h = absurd (never h)

pub asked_alive : (c : Control) → is_granted (reply_of c AskTerm) ≡ true → is_alive (obj c.rows 0).stage ≡ true
asked_alive c h = by (is_alive (obj c.rows 0).stage) h
  where
    by : (x : Bool) → is_granted (if not x then Before else Asked) ≡ true → x ≡ true
    by true h = refl
    by false h = absurd (never h)

-- a request that is granted
requested_kept : (c : Control) (req : Req) (h : Answers) → Kept c → MayAsk c req → is_granted (reply_of c req) ≡ true → Kept (requested req h c)
requested_kept c (MakeSocket kind options) h kept may_ask granted = socket_kept c kind options h kept (granted_alive c _ granted)
requested_kept c AskTerm h kept may_ask granted = ask_term_kept c h kept (asked_alive c granted)
requested_kept c (Bind o (Inproc name)) h kept may_ask granted = bind_name_kept c o.0 name h kept may_ask
requested_kept c (Bind o (Tcp address)) h kept may_ask granted = listener_kept c o.0 address h kept may_ask
requested_kept c (Connect o (Inproc name)) h kept may_ask granted = connect_name_kept c o.0 name h kept may_ask
requested_kept c (Connect o (Tcp address)) h kept may_ask granted = session_kept c o.0 address h kept may_ask
requested_kept c (Unbind o at) h kept may_ask granted = strikes_kept c o.0 at (is_bind_to at) kept (open_unasked c o.0 kept may_ask).1
requested_kept c (Disconnect o at) h kept may_ask granted = strikes_kept c o.0 at (is_connect_to at) kept (open_unasked c o.0 kept may_ask).1
requested_kept c (Close o) h kept may_ask granted = close_kept c o h kept may_ask
requested_kept c (Accepted o) h kept may_ask granted = accepted_kept c o.0 h kept may_ask.0 may_ask.1
requested_kept c (Shaken o peer) h kept may_ask granted = shaken_kept c o peer h kept may_ask
requested_kept c (AskEnd e reason) h kept may_ask granted = ask_end_kept c e reason h kept may_ask
requested_kept c (AskOver o) h kept may_ask granted = ask_over_kept c o h kept may_ask
requested_kept c (OutputOver o) h kept may_ask granted = over_ends_kept c o h kept

answered_kept : (c : Control) (req : Req) (reply : Reply) (h : Answers) → Kept c → MayAsk c req → reply ≡ reply_of c req → Kept (answered req reply h c)
answered_kept c req Done h kept may_ask is = requested_kept c req h kept may_ask (ap is_granted (sym is))
answered_kept c req (Object o) h kept may_ask is = requested_kept c req h kept may_ask (ap is_granted (sym is))
answered_kept c req (PairMade p) h kept may_ask is = requested_kept c req h kept may_ask (ap is_granted (sym is))
answered_kept c req (Both o p) h kept may_ask is = requested_kept c req h kept may_ask (ap is_granted (sym is))
answered_kept c req Wait h kept may_ask is = requested_kept c req h kept may_ask (ap is_granted (sym is))
answered_kept c req Asked h kept may_ask is = requested_kept c req h kept may_ask (ap is_granted (sym is))
answered_kept c req Before h kept may_ask is = kept
answered_kept c req (Refused refusal) h kept may_ask is = kept

pub after_kept : {N S : Type 0} (c : Control) (did : Did N S) → Kept c → Fits c did → Kept (after did c)
after_kept c (DidAsk req reply h) kept fits = answered_kept c req reply (answers_in h) kept fits.may.0 fits.may.1
after_kept c (Delivered slot letter h) kept fits = delivered_kept c slot.0 letter.to.0 letter.word fits.may.behind (answers_in h) kept fits.may.oldest
after_kept c (Delimited e h) kept fits = delimited_kept c e kept fits.may.looked_at

pub run_kept : {N S : Type 0} (items : List (Item N S)) (c : Control) → Kept c → IsControlRun c items → Kept (after_all items c)
run_kept [] c kept run = kept
run_kept (Event entry ∷ items) c kept run = run_kept items (after entry.did c) (after_kept c entry.did kept run.0) run.1
run_kept (Seen sight ∷ items) c kept run = run_kept items c kept run.1
