-- Worked control runs, by hand from the tables: an empty context; two sockets whose ends are asked at once; a session that reads on to its delimiter and has output left; an end that met its delimiter before its socket was closed.
use Rattle.std.specs.Prelude.{◌≡◌, ℕ, pos, Bool, true, false, List, [], ◌∷◌, Some, None, codes}
use Rattle.zq_base.specs.declared.ids.ObjId.{ObjId}
use Rattle.zq_base.specs.declared.endpoint.Endpoint.{Endpoint}
use Rattle.zq_base.specs.declared.endpoint.Endpoint.TheVariants.{Inproc, Tcp}
use Rattle.zq_base.specs.declared.kind.Kind.TheVariants.{Push, Pull}
use Rattle.zq_base.specs.declared.options.Options.{Options}
use Rattle.zq_base.specs.declared.log.Log.{Log}
use Rattle.spec_control.specs.declared.end.Reason.TheVariants.{Closed}
use Rattle.spec_control.specs.declared.object.ObjState.TheVariants.{Ended}
use Rattle.spec_control.specs.declared.letter.Word.{Word}
use Rattle.spec_control.specs.declared.letter.Word.TheVariants.{Own, Plug, Term, TermAck, PipeBind, PipeTerm, PipeTermAck, Reap}
use Rattle.spec_control.specs.declared.request.Req.{Req}
use Rattle.spec_control.specs.declared.request.Req.TheVariants.{Socket, AskTerm, Bind, Connect, Close, OutputOver}
use Rattle.spec_control.specs.declared.request.Reply.{Reply}
use Rattle.spec_control.specs.declared.request.Reply.TheVariants.{Done, Object, Pair, Both, Asked, Refused}
use Rattle.spec_control.specs.declared.request.Refusal.TheVariants.{Term as Terminating}
use Rattle.zq_base.specs.declared.attached.Attached.TheVariants.{Yes}
use Rattle.spec_control.specs.declared.entry.PipeName.{PipeName}
use Rattle.spec_control.specs.declared.entry.Answered.{Answered}
use Rattle.spec_control.specs.declared.entry.Did.{Did}
use Rattle.spec_control.specs.declared.entry.Did.TheVariants.{Asked as DidAsk, Delivered, Delimited}
use Rattle.spec_control.specs.declared.entry.SeenEmpty.TheVariants.{Reapers}
use Rattle.spec_control.specs.declared.entry.Item.{Item}
use Rattle.spec_control.specs.declared.entry.Item.TheVariants.{Event, Seen}
use Rattle.spec_control.specs.Row.{no_options}
use Rattle.spec_control.specs.Control.{Settlement, begun, id, end_of}
use Rattle.spec_control.specs.ControlRun.{IsControlRun, after_all}
use Rattle.spec_control.specs.Quiescence.{IsQuiescent}

-- a holder's stories, which no rule reads
abbrev pub Stories : Type 0
Stories = Log (PipeName ℕ) ℕ

module _ (stories : Stories) where
  -- the holder had nothing to answer
  abbrev pub silent : Answered ℕ ℕ
  silent = record { joined = []; opened = []; settled = None; output_left = false; stories = stories }

  -- an end of pair 1 joined, whose kind takes it, or was taken over by the reaper; pipe 1a has name 11, pipe 1b has name 12
  abbrev pub joined : Bool → (peer : List ℕ) → Answered ℕ ℕ
  joined true peer = record silent { joined = record { end = end_of 1 true; peer = peer; written = 11; read = 12; answer = Yes; met = false } ∷ [] }
  joined false peer = record silent { joined = record { end = end_of 1 false; peer = peer; written = 12; read = 11; answer = Yes; met = false } ∷ [] }

  -- end 1b was taken over by the reaper, which had met its delimiter before
  abbrev pub met_before : Answered ℕ ℕ
  met_before = record silent { joined = record { end = end_of 1 false; peer = []; written = 12; read = 11; answer = Yes; met = true } ∷ [] }

  -- an end of pair 1 joined, and the pair was made for it
  abbrev pub opened : Bool → (peer : List ℕ) → Answered ℕ ℕ
  opened a peer = record (joined a peer) { opened = record { pipe = end_of 1 true; name = 11 } ∷ record { pipe = end_of 1 false; name = 12 } ∷ [] }

  -- so many messages were committed to a pipe, and so many taken
  abbrev pub settled : (sent got rest : ℕ) → (output_left : Bool) → Answered ℕ ℕ
  settled sent got rest left = record silent { settled = Some (record { sent = sent; got = got; rest = rest }); output_left = left }

  abbrev pub event : Did ℕ ℕ → Item ℕ ℕ
  event did = Event (record { by = 0; did = did })

  -- a request, and a command that is taken from a mailbox
  abbrev pub requests : Req → Reply → Answered ℕ ℕ → Item ℕ ℕ
  requests req reply h = event (DidAsk req reply h)

  abbrev pub takes : (slot to : ℕ) → Word → Answered ℕ ℕ → Item ℕ ℕ
  takes slot to word h = event (Delivered (record { 0 = slot }) (record { to = id to; word = word }) h)

  -- options with an identity and a linger
  abbrev pub options_of : (identity : List ℕ) → (linger : ℕ) → Options
  options_of identity linger = record no_options { hwm = 1000; rcvhwm = 1000; id = identity; linger = pos linger }

  abbrev pub name : Endpoint
  name = Inproc (codes "q")

  abbrev pub address : Endpoint
  address = Tcp (record { octets = 127 ∷ 0 ∷ 0 ∷ 1 ∷ []; port = 5555 })

  -- where the root has ended, with these objects before it, these settlements, and nothing left to come
  pub record EndsWith (run : List (Item ℕ ℕ)) (ended : List ObjId) (settlements : List Settlement) : Type 0 where
    pub run_is : IsControlRun (begun 1) run
    pub ended_are : (after_all run (begun 1)).ended ≡ ended
    pub settlements_are : (after_all run (begun 1)).settlements ≡ settlements
    pub quiescent : IsQuiescent (after_all run (begun 1))

  -- a context without sockets is asked, and refuses one
  abbrev pub empty_run : List (Item ℕ ℕ)
  empty_run =
      requests AskTerm Asked silent
      ∷ requests (Socket Pull (options_of [] 0)) (Refused Terminating) silent
      ∷ Seen (record { by = 0; empty = Reapers; root = Ended; live = 0; room = true })
      ∷ []

  abbrev pub EmptyContextEnds : Type 0
  EmptyContextEnds = EndsWith empty_run (id 0 ∷ []) []

  -- a PULL is bound and a PUSH connected; both are closed, and both are asked before either PipeTerm is processed; one message is left in pipe 1a
  abbrev pub crossed_run : List (Item ℕ ℕ)
  crossed_run =
      requests (Socket Pull (options_of [] 0)) (Object (id 1)) silent
      ∷ requests (Socket Push (options_of (7 ∷ []) 0)) (Object (id 2)) silent
      ∷ requests (Bind (id 1) name) Done silent
      ∷ requests (Connect (id 2) name) (Pair (record { 0 = 1 })) (opened true [])
      ∷ takes 2 1 (PipeBind (end_of 1 false) (7 ∷ [])) (joined false (7 ∷ []))
      ∷ requests (Close (id 1)) Done silent
      ∷ requests (Close (id 2)) Done silent
      ∷ takes 0 0 (Reap (id 1)) (joined false [])
      ∷ takes 0 0 (Reap (id 2)) (joined true [])
      ∷ takes 2 1 Term silent
      ∷ takes 3 2 Term silent
      ∷ takes 2 1 (PipeTerm (end_of 1 false)) silent
      ∷ takes 3 2 (PipeTerm (end_of 1 true)) silent
      ∷ takes 2 1 (PipeTermAck (end_of 1 false)) (settled 1 0 1 false)
      ∷ takes 3 2 (PipeTermAck (end_of 1 true)) (settled 0 0 0 false)
      ∷ takes 0 0 (TermAck (id 1)) silent
      ∷ takes 0 0 (TermAck (id 2)) silent
      ∷ requests AskTerm Asked silent
      ∷ []

  abbrev pub CrossedSocketsEnd : Type 0
  CrossedSocketsEnd = EndsWith crossed_run (id 1 ∷ id 2 ∷ id 0 ∷ [])
      (record { end = end_of 1 false; counts = record { sent = 1; got = 0; rest = 1 }; reason = Some Closed }
      ∷ record { end = end_of 1 true; counts = record { sent = 0; got = 0; rest = 0 }; reason = Some Closed } ∷ [])

  -- a PUSH connects over tcp and is closed; the root is asked while its Reap is on its way; the session reads on to the delimiter, acknowledges without a reason, and ends when its output is over
  abbrev pub session_run : List (Item ℕ ℕ)
  session_run =
      requests (Socket Push (options_of [] 1000)) (Object (id 1)) silent
      ∷ requests (Connect (id 1) address) (Both (id 2) (record { 0 = 1 })) (opened true [])
      ∷ takes 1 2 (Plug (Some (end_of 1 false))) (joined false [])
      ∷ takes 2 1 (Own (id 2)) silent
      ∷ requests (Close (id 1)) Done silent
      ∷ requests AskTerm Asked silent
      ∷ takes 0 0 (Reap (id 1)) (joined true [])
      ∷ takes 2 1 Term silent
      ∷ takes 1 2 (PipeTerm (end_of 1 false)) silent
      ∷ takes 1 2 Term silent
      ∷ event (Delimited (end_of 1 false) silent)
      ∷ takes 2 1 (PipeTermAck (end_of 1 true)) (settled 0 0 0 false)
      ∷ takes 1 2 (PipeTermAck (end_of 1 false)) (settled 3 3 0 true)
      ∷ requests (OutputOver (id 2)) Done silent
      ∷ takes 2 1 (TermAck (id 2)) silent
      ∷ takes 0 0 (TermAck (id 1)) silent
      ∷ []

  abbrev pub LingeringSessionEnds : Type 0
  LingeringSessionEnds = EndsWith session_run (id 2 ∷ id 1 ∷ id 0 ∷ [])
      (record { end = end_of 1 true; counts = record { sent = 0; got = 0; rest = 0 }; reason = Some Closed }
      ∷ record { end = end_of 1 false; counts = record { sent = 3; got = 3; rest = 0 }; reason = None } ∷ [])

  -- a PULL is bound and a PUSH connected; the PUSH is closed, and the PULL meets its delimiter and acknowledges before it is closed; the reaper settles its pipe, which is read out, without a reason
  abbrev pub read_out_run : List (Item ℕ ℕ)
  read_out_run =
      requests (Socket Pull (options_of [] 0)) (Object (id 1)) silent
      ∷ requests (Socket Push (options_of (7 ∷ []) 0)) (Object (id 2)) silent
      ∷ requests (Bind (id 1) name) Done silent
      ∷ requests (Connect (id 2) name) (Pair (record { 0 = 1 })) (opened true [])
      ∷ takes 2 1 (PipeBind (end_of 1 false) (7 ∷ [])) (joined false (7 ∷ []))
      ∷ requests (Close (id 2)) Done silent
      ∷ takes 0 0 (Reap (id 2)) (joined true [])
      ∷ takes 3 2 Term silent
      ∷ event (Delimited (end_of 1 false) silent)
      ∷ takes 2 1 (PipeTerm (end_of 1 false)) silent
      ∷ requests (Close (id 1)) Done silent
      ∷ takes 0 0 (Reap (id 1)) met_before
      ∷ takes 3 2 (PipeTermAck (end_of 1 true)) (settled 0 0 0 false)
      ∷ takes 2 1 Term silent
      ∷ takes 2 1 (PipeTermAck (end_of 1 false)) (settled 2 2 0 false)
      ∷ takes 0 0 (TermAck (id 2)) silent
      ∷ takes 0 0 (TermAck (id 1)) silent
      ∷ requests AskTerm Asked silent
      ∷ []

  abbrev pub ReadOutSocketsEnd : Type 0
  ReadOutSocketsEnd = EndsWith read_out_run (id 2 ∷ id 1 ∷ id 0 ∷ [])
      (record { end = end_of 1 true; counts = record { sent = 0; got = 0; rest = 0 }; reason = Some Closed }
      ∷ record { end = end_of 1 false; counts = record { sent = 2; got = 2; rest = 0 }; reason = None } ∷ [])

-- the worked runs are control runs, and come to their ends
pub record WorkedRuns : Type 0 where
  pub empty : (stories : Stories) → EmptyContextEnds stories
  pub crossed : (stories : Stories) → CrossedSocketsEnd stories
  pub session : (stories : Stories) → LingeringSessionEnds stories
  pub read_out : (stories : Stories) → ReadOutSocketsEnd stories
