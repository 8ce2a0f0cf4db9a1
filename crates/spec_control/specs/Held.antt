-- What a caller's own items say of the ends that it holds for an object (own choice).
use Rattle.std.specs.Prelude.{◌==◌, ℕ, not, List, [], ◌∷◌, ◌++◌, Option, Some, None, if◌then◌else◌, map, filter}
use Rattle.zq_base.specs.declared.ids.EndId.{EndId}
use Rattle.spec_control.specs.declared.letter.Word.{Word}
use Rattle.spec_control.specs.declared.letter.Word.TheVariants.{Own, Plug, TermReq, Term, TermAck, PipeBind, PipeTerm, PipeTermAck, Stop, Reap}
use Rattle.spec_control.specs.declared.request.Req.{Req}
use Rattle.spec_control.specs.declared.request.Req.TheVariants.{Socket as MakeSocket, AskTerm, Bind, Connect, Unbind, Disconnect, Close, Accepted, Shaken, AskEnd, AskOver, OutputOver}
use Rattle.spec_control.specs.declared.entry.Joining.{Joining}
use Rattle.spec_control.specs.declared.entry.Did.{Did}
use Rattle.spec_control.specs.declared.entry.Did.TheVariants.{Asked, Delivered, Delimited}
use Rattle.spec_control.specs.declared.entry.Item.{Item}
use Rattle.spec_control.specs.declared.entry.Item.TheVariants.{Event, Seen}
use Rattle.spec_control.specs.Rows.{is_owner}
use Rattle.spec_control.specs.Control.{is_end}

-- an end that a holder has, with the names of the pipe that it writes and of the one that it reads
pub record Held (N : Type 0) : Type 0 where
  pub end : EndId
  pub written : N
  pub read : N

-- the object that makes a request; the context makes two, and an end's session is not told by the request alone
abbrev pub asker : Req → Option ℕ
asker (MakeSocket kind options) = None
asker AskTerm = None
asker (Bind o at) = Some o.0
asker (Connect o at) = Some o.0
asker (Unbind o at) = Some o.0
asker (Disconnect o at) = Some o.0
asker (Close o) = Some o.0
asker (Accepted o) = Some o.0
asker (Shaken o peer) = Some o.0
asker (AskEnd e reason) = None
asker (AskOver o) = Some o.0
asker (OutputOver o) = Some o.0

-- the object whose ends a command may change: a closed socket's at its Reap, and else the addressee's
abbrev pub heard_of : ℕ → Word → ℕ
heard_of to (Own child) = to
heard_of to (Plug end) = to
heard_of to (TermReq child) = to
heard_of to Term = to
heard_of to (TermAck child) = to
heard_of to (PipeBind e peer) = to
heard_of to (PipeTerm e) = to
heard_of to (PipeTermAck e) = to
heard_of to Stop = to
heard_of to (Reap socket) = socket.0

-- the object whose ends an event may change
abbrev pub subject_of : {N S : Type 0} → Did N S → Option ℕ
subject_of (Asked req reply h) = asker req
subject_of (Delivered slot letter h) = Some (heard_of letter.to.0 letter.word)
subject_of (Delimited e h) = None

module _ {N : Type 0} where
  -- an end that joined, as its holder has it from then on, whatever its kind answered
  abbrev pub held_as : Joining N → Held N
  held_as j = record { end = j.end; written = j.written; read = j.read }

  -- an object's ends after its request: those that join stand behind those that it had, and a close gives all away
  abbrev pub ends_at_request : Req → List (Joining N) → List (Held N) → List (Held N)
  ends_at_request (MakeSocket kind options) js hs = hs
  ends_at_request AskTerm js hs = hs
  ends_at_request (Bind o at) js hs = hs ++ map held_as js
  ends_at_request (Connect o at) js hs = hs ++ map held_as js
  ends_at_request (Unbind o at) js hs = hs
  ends_at_request (Disconnect o at) js hs = hs
  ends_at_request (Close o) js hs = []
  ends_at_request (Accepted o) js hs = hs
  ends_at_request (Shaken o peer) js hs = hs ++ map held_as js
  ends_at_request (AskEnd e reason) js hs = hs
  ends_at_request (AskOver o) js hs = hs
  ends_at_request (OutputOver o) js hs = hs

  -- and after a command: an end that is acknowledged is gone, since the pipe that it read is settled and its writing half was yielded
  abbrev pub ends_at_word : Word → List (Joining N) → List (Held N) → List (Held N)
  ends_at_word (Own child) js hs = hs
  ends_at_word (Plug end) js hs = hs ++ map held_as js
  ends_at_word (TermReq child) js hs = hs
  ends_at_word Term js hs = hs
  ends_at_word (TermAck child) js hs = hs
  ends_at_word (PipeBind e peer) js hs = hs ++ map held_as js
  ends_at_word (PipeTerm e) js hs = hs
  ends_at_word (PipeTermAck e) js hs = filter (λ x. not (is_end e x.end)) hs
  ends_at_word Stop js hs = hs
  ends_at_word (Reap socket) js hs = hs ++ map held_as js

module _ {N S : Type 0} where
  -- the ends of the object of an event
  abbrev pub ends_in : Did N S → List (Held N) → List (Held N)
  ends_in (Asked req reply h) hs = ends_at_request req h.joined hs
  ends_in (Delivered slot letter h) hs = ends_at_word letter.word h.joined hs
  ends_in (Delimited e h) hs = hs

  -- an object's ends after an item
  abbrev pub ends_then : ℕ → Item N S → List (Held N) → List (Held N)
  ends_then i (Event entry) hs = if is_owner i (subject_of entry.did) then ends_in entry.did hs else hs
  ends_then i (Seen sight) hs = hs

  -- after events and looks in order
  abbrev pub ends_over : ℕ → List (Held N) → List (Item N S) → List (Held N)
  ends_over i hs [] = hs
  ends_over i hs (item ∷ items) = ends_over i (ends_then i item hs) items

  -- the ends of an object that a caller holds, in the order of their attachment, read off its own items
  abbrev pub ends_after : ℕ → List (Item N S) → List (Held N)
  ends_after i items = ends_over i [] items

  -- who did or saw an item, and a caller's own items
  abbrev pub caller_of : Item N S → ℕ
  caller_of (Event entry) = entry.by
  caller_of (Seen sight) = sight.by

  abbrev pub items_by : ℕ → List (Item N S) → List (Item N S)
  items_by k items = filter (λ item. caller_of item == k) items
