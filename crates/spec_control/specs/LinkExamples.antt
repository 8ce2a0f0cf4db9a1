-- Worked control runs over tcp, by hand from the tables: an accepted session whose link fails with its Own on its way; a listener that is unbound with its Own on its way, and its name bound again; a session told to end without a linger, and one whose linger runs out; a peer that is refused for its identity.
use Rattle.std.specs.Prelude.{ℕ, true, false, List, [], ◌∷◌, Some, None}
use Rattle.zq_base.specs.declared.kind.Kind.TheVariants.{Push, Pull, Router, Dealer}
use Rattle.zq_base.specs.declared.attached.Attached.TheVariants.{Yes, BadId as IsBadId}
use Rattle.spec_control.specs.declared.end.Reason.TheVariants.{Closed, BadId, Linger}
use Rattle.spec_control.specs.declared.letter.Word.{Word}
use Rattle.spec_control.specs.declared.letter.Word.TheVariants.{Own, Plug, TermReq, Term, TermAck, PipeBind, PipeTerm, PipeTermAck, Reap}
use Rattle.spec_control.specs.declared.request.Req.{Req}
use Rattle.spec_control.specs.declared.request.Req.TheVariants.{Socket, AskTerm, Bind, Connect, Unbind, Close, Accepted, Shaken, AskEnd, AskOver}
use Rattle.spec_control.specs.declared.request.Reply.{Reply}
use Rattle.spec_control.specs.declared.request.Reply.TheVariants.{Done, Object, Both, Asked, Refused}
use Rattle.spec_control.specs.declared.request.Refusal.TheVariants.{InUse, NotBound}
use Rattle.spec_control.specs.declared.entry.Answered.{Answered}
use Rattle.spec_control.specs.declared.entry.Did.TheVariants.{Delimited}
use Rattle.spec_control.specs.declared.entry.Item.{Item}
use Rattle.spec_control.specs.Control.{id, end_of}
use Rattle.spec_control.specs.ControlExamples.{Stories, silent, joined, opened, settled, event, requests, takes, options_of, address, EndsWith}

module _ (stories : Stories) where
  -- a request, and a command that is taken from a mailbox, where the holder has nothing to answer
  abbrev pub asks : Req → Reply → Item ℕ ℕ
  asks req reply = requests stories req reply (silent stories)

  abbrev pub hears : (slot to : ℕ) → Word → Item ℕ ℕ
  hears slot to word = takes stories slot to word (silent stories)

  -- end 2a joined, and its pair was made for it; pipe 2a has name 21, pipe 2b name 22
  abbrev pub opened_second : Answered ℕ ℕ
  opened_second = record (silent stories) {
    joined = record { end = end_of 2 true; peer = []; written = 21; read = 22; answer = Yes; met = false } ∷ [];
    opened = record { pipe = end_of 2 true; name = 21 } ∷ record { pipe = end_of 2 false; name = 22 } ∷ [];
  }

  -- end 2b joined, whose kind refuses it for its peer's identity
  abbrev pub refused_second : Answered ℕ ℕ
  refused_second = record (silent stories) { joined = record { end = end_of 2 false; peer = 7 ∷ []; written = 22; read = 21; answer = IsBadId; met = false } ∷ [] }

  -- a PULL listens, and a link is accepted; the link fails in its handshake while the session's Own is on its way, so the session asks to end behind it, and is told once the socket has both; the root is asked while the socket's Reap is on its way
  abbrev pub failed_run : List (Item ℕ ℕ)
  failed_run =
      asks (Socket Pull (options_of stories [] 0)) (Object (id 1))
      ∷ asks (Bind (id 1) (address stories)) (Object (id 2))
      ∷ hears 1 2 (Plug None)
      ∷ hears 2 1 (Own (id 2))
      ∷ asks (Accepted (id 2)) (Both (id 3) (record { 0 = 1 }))
      ∷ asks (AskOver (id 3)) Done
      ∷ hears 2 1 (Own (id 3))
      ∷ hears 2 1 (TermReq (id 3))
      ∷ hears 1 3 Term
      ∷ hears 2 1 (TermAck (id 3))
      ∷ asks (Close (id 1)) Done
      ∷ asks AskTerm Asked
      ∷ hears 0 0 (Reap (id 1))
      ∷ hears 2 1 Term
      ∷ hears 1 2 Term
      ∷ hears 2 1 (TermAck (id 2))
      ∷ hears 0 0 (TermAck (id 1))
      ∷ []

  abbrev pub FailedSessionEnds : Type 0
  FailedSessionEnds = EndsWith stories failed_run (id 3 ∷ id 2 ∷ id 1 ∷ id 0 ∷ []) []

  -- a PULL listens, and is unbound while the listener's Own is on its way: the listener is told at once, ends, and is noted only then; the name is free as soon as it is struck, and is bound again
  abbrev pub unbound_run : List (Item ℕ ℕ)
  unbound_run =
      asks (Socket Pull (options_of stories [] 0)) (Object (id 1))
      ∷ asks (Bind (id 1) (address stories)) (Object (id 2))
      ∷ asks (Bind (id 1) (address stories)) (Refused InUse)
      ∷ asks (Unbind (id 1) (address stories)) Done
      ∷ asks (Unbind (id 1) (address stories)) (Refused NotBound)
      ∷ asks (Bind (id 1) (address stories)) (Object (id 3))
      ∷ hears 1 2 (Plug None)
      ∷ hears 1 2 Term
      ∷ hears 1 3 (Plug None)
      ∷ hears 2 1 (Own (id 2))
      ∷ hears 2 1 (Own (id 3))
      ∷ hears 2 1 (TermAck (id 2))
      ∷ asks (Close (id 1)) Done
      ∷ hears 0 0 (Reap (id 1))
      ∷ hears 2 1 Term
      ∷ hears 1 3 Term
      ∷ hears 2 1 (TermAck (id 3))
      ∷ hears 0 0 (TermAck (id 1))
      ∷ asks AskTerm Asked
      ∷ []

  abbrev pub UnboundListenerEnds : Type 0
  UnboundListenerEnds = EndsWith stories unbound_run (id 2 ∷ id 3 ∷ id 1 ∷ id 0 ∷ []) []

  -- a PUSH connects over tcp, is plugged in and closed
  abbrev pub connected : (linger : ℕ) → List (Item ℕ ℕ) → List (Item ℕ ℕ)
  connected linger rest =
      asks (Socket Push (options_of stories [] linger)) (Object (id 1))
      ∷ requests stories (Connect (id 1) (address stories)) (Both (id 2) (record { 0 = 1 })) (opened stories true [])
      ∷ takes stories 1 2 (Plug (Some (end_of 1 false))) (joined stories false [])
      ∷ hears 2 1 (Own (id 2))
      ∷ asks (Close (id 1)) Done
      ∷ takes stories 0 0 (Reap (id 1)) (joined stories true [])
      ∷ hears 2 1 Term
      ∷ hears 1 2 (PipeTerm (end_of 1 false))
      ∷ hears 1 2 Term
      ∷ rest

  -- its linger is 0, so the session's Term gives up at once the two messages that are left in the pipe
  abbrev pub given_up_run : List (Item ℕ ℕ)
  given_up_run = connected 0
      (takes stories 2 1 (PipeTermAck (end_of 1 true)) (settled stories 0 0 0 false)
      ∷ takes stories 1 2 (PipeTermAck (end_of 1 false)) (settled stories 2 0 2 false)
      ∷ hears 2 1 (TermAck (id 2))
      ∷ hears 0 0 (TermAck (id 1))
      ∷ asks AskTerm Asked
      ∷ [])

  abbrev pub GivenUpSessionEnds : Type 0
  GivenUpSessionEnds = EndsWith stories given_up_run (id 2 ∷ id 1 ∷ id 0 ∷ [])
      (record { end = end_of 1 true; counts = record { sent = 0; got = 0; rest = 0 }; reason = Some Closed }
      ∷ record { end = end_of 1 false; counts = record { sent = 2; got = 0; rest = 2 }; reason = Some Linger } ∷ [])

  -- its linger is 1000, so its end reads on behind the session's Term, until the linger runs out with two of three messages left
  abbrev pub run_out_run : List (Item ℕ ℕ)
  run_out_run = connected 1000
      (asks (AskEnd (end_of 1 false) Linger) Done
      ∷ takes stories 2 1 (PipeTermAck (end_of 1 true)) (settled stories 0 0 0 false)
      ∷ takes stories 1 2 (PipeTermAck (end_of 1 false)) (settled stories 3 1 2 false)
      ∷ hears 2 1 (TermAck (id 2))
      ∷ hears 0 0 (TermAck (id 1))
      ∷ asks AskTerm Asked
      ∷ [])

  abbrev pub RunOutSessionEnds : Type 0
  RunOutSessionEnds = EndsWith stories run_out_run (id 2 ∷ id 1 ∷ id 0 ∷ [])
      (record { end = end_of 1 true; counts = record { sent = 0; got = 0; rest = 0 }; reason = Some Closed }
      ∷ record { end = end_of 1 false; counts = record { sent = 3; got = 1; rest = 2 }; reason = Some Linger } ∷ [])

  -- a ROUTER listens, and two links shake hands with one identity: the first is taken; the second is refused, its end is asked at once, and its session asks to end once its pair is gone; the socket is closed, and the first session meets its delimiter before its Term, which then gives no reason
  abbrev pub refused_run : List (Item ℕ ℕ)
  refused_run =
      asks (Socket Router (options_of stories [] 0)) (Object (id 1))
      ∷ asks (Bind (id 1) (address stories)) (Object (id 2))
      ∷ hears 1 2 (Plug None)
      ∷ hears 2 1 (Own (id 2))
      ∷ asks (Accepted (id 2)) (Both (id 3) (record { 0 = 1 }))
      ∷ hears 2 1 (Own (id 3))
      ∷ requests stories (Shaken (id 3) (record { kind = Dealer; identity = 7 ∷ [] })) Done (opened stories true [])
      ∷ takes stories 2 1 (PipeBind (end_of 1 false) (7 ∷ [])) (joined stories false (7 ∷ []))
      ∷ asks (Accepted (id 2)) (Both (id 4) (record { 0 = 2 }))
      ∷ hears 2 1 (Own (id 4))
      ∷ requests stories (Shaken (id 4) (record { kind = Dealer; identity = 7 ∷ [] })) Done opened_second
      ∷ takes stories 2 1 (PipeBind (end_of 2 false) (7 ∷ [])) refused_second
      ∷ hears 1 4 (PipeTerm (end_of 2 true))
      ∷ event stories (Delimited (end_of 2 true) (silent stories))
      ∷ takes stories 2 1 (PipeTermAck (end_of 2 false)) (settled stories 1 0 1 false)
      ∷ takes stories 1 4 (PipeTermAck (end_of 2 true)) (settled stories 0 0 0 false)
      ∷ asks (AskOver (id 4)) Done
      ∷ hears 2 1 (TermReq (id 4))
      ∷ hears 1 4 Term
      ∷ hears 2 1 (TermAck (id 4))
      ∷ asks (Close (id 1)) Done
      ∷ takes stories 0 0 (Reap (id 1)) (joined stories false [])
      ∷ hears 2 1 Term
      ∷ hears 1 3 (PipeTerm (end_of 1 true))
      ∷ event stories (Delimited (end_of 1 true) (silent stories))
      ∷ hears 1 2 Term
      ∷ hears 1 3 Term
      ∷ takes stories 2 1 (PipeTermAck (end_of 1 false)) (settled stories 2 1 1 false)
      ∷ hears 2 1 (TermAck (id 2))
      ∷ takes stories 1 3 (PipeTermAck (end_of 1 true)) (settled stories 3 3 0 false)
      ∷ hears 2 1 (TermAck (id 3))
      ∷ hears 0 0 (TermAck (id 1))
      ∷ asks AskTerm Asked
      ∷ []

  abbrev pub RefusedPeerEnds : Type 0
  RefusedPeerEnds = EndsWith stories refused_run (id 4 ∷ id 2 ∷ id 3 ∷ id 1 ∷ id 0 ∷ [])
      (record { end = end_of 2 false; counts = record { sent = 1; got = 0; rest = 1 }; reason = Some BadId }
      ∷ record { end = end_of 2 true; counts = record { sent = 0; got = 0; rest = 0 }; reason = None }
      ∷ record { end = end_of 1 false; counts = record { sent = 2; got = 1; rest = 1 }; reason = Some Closed }
      ∷ record { end = end_of 1 true; counts = record { sent = 3; got = 3; rest = 0 }; reason = None } ∷ [])

-- the worked runs over tcp are control runs, and come to their ends
pub record LinkedRuns : Type 0 where
  pub failed : (stories : Stories) → FailedSessionEnds stories
  pub unbound : (stories : Stories) → UnboundListenerEnds stories
  pub given_up : (stories : Stories) → GivenUpSessionEnds stories
  pub run_out : (stories : Stories) → RunOutSessionEnds stories
  pub refused : (stories : Stories) → RefusedPeerEnds stories
