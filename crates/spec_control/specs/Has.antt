-- Which caller has which object, and who may make which entry (own choice).
use Rattle.std.specs.Prelude.{◌≡◌, ℕ, zero, suc, List, [], ◌∷◌, ◌++◌, Option, Some, None, if◌then◌else◌}
use Rattle.spec_control.specs.declared.letter.Word.{Word}
use Rattle.spec_control.specs.declared.letter.Word.TheVariants.{Own, Plug, TermReq, Term, TermAck, PipeBind, PipeTerm, PipeTermAck, Stop, Reap}
use Rattle.spec_control.specs.declared.request.Req.{Req}
use Rattle.spec_control.specs.declared.request.Req.TheVariants.{Socket as MakeSocket, AskTerm, Bind, Connect, Unbind, Disconnect, Close, Accepted, Shaken, AskEnd, AskOver, OutputOver}
use Rattle.spec_control.specs.declared.request.Reply.{Reply}
use Rattle.spec_control.specs.declared.request.Reply.TheVariants.{Done, Object, Pair, Both, Wait, Asked as WasAsked, Before, Refused}
use Rattle.spec_control.specs.declared.entry.Did.{Did}
use Rattle.spec_control.specs.declared.entry.Did.TheVariants.{Asked, Delivered, Delimited}
use Rattle.spec_control.specs.declared.entry.Item.{Item}
use Rattle.spec_control.specs.declared.entry.Item.TheVariants.{Event, Seen}
use Rattle.spec_control.specs.Rows.{is_owner}
use Rattle.spec_control.specs.Control.{Control, owner_of}
use Rattle.spec_control.specs.ControlRun.{after_item}

-- the object that an answer names
abbrev pub made_by : Reply → Option ℕ
made_by Done = None
made_by (Object o) = Some o.0
made_by (Pair p) = None
made_by (Both o p) = Some o.0
made_by Wait = None
made_by WasAsked = None
made_by Before = None
made_by (Refused refusal) = None

-- a socket is taken in by who makes it, an accepted session by its listener's worker; others wait for their Plug
abbrev pub taken_by_request : Req → Reply → Option ℕ
taken_by_request (MakeSocket kind options) reply = made_by reply
taken_by_request AskTerm reply = None
taken_by_request (Bind o at) reply = None
taken_by_request (Connect o at) reply = None
taken_by_request (Unbind o at) reply = None
taken_by_request (Disconnect o at) reply = None
taken_by_request (Close o) reply = None
taken_by_request (Accepted o) reply = made_by reply
taken_by_request (Shaken o peer) reply = None
taken_by_request (AskEnd e reason) reply = None
taken_by_request (AskOver o) reply = None
taken_by_request (OutputOver o) reply = None

-- a worker takes in its objects at their Plug, the reaper a closed socket at its Reap
abbrev pub taken_by_word : ℕ → Word → Option ℕ
taken_by_word to (Own child) = None
taken_by_word to (Plug end) = Some to
taken_by_word to (TermReq child) = None
taken_by_word to Term = None
taken_by_word to (TermAck child) = None
taken_by_word to (PipeBind e peer) = None
taken_by_word to (PipeTerm e) = None
taken_by_word to (PipeTermAck e) = None
taken_by_word to Stop = None
taken_by_word to (Reap socket) = Some socket.0

-- a close gives the socket away
abbrev pub given_by_request : Req → Option ℕ
given_by_request (MakeSocket kind options) = None
given_by_request AskTerm = None
given_by_request (Bind o at) = None
given_by_request (Connect o at) = None
given_by_request (Unbind o at) = None
given_by_request (Disconnect o at) = None
given_by_request (Close o) = Some o.0
given_by_request (Accepted o) = None
given_by_request (Shaken o peer) = None
given_by_request (AskEnd e reason) = None
given_by_request (AskOver o) = None
given_by_request (OutputOver o) = None

-- nobody has the root: the context asks it, and the reaper takes its commands
abbrev pub unless_root : ℕ → Option ℕ
unless_root zero = None
unless_root (suc n) = Some (suc n)

-- the object that acts at a command: its addressee, but for one that is only taken in by it
abbrev pub acts_at_word : ℕ → Word → Option ℕ
acts_at_word to (Own child) = unless_root to
acts_at_word to (Plug end) = None
acts_at_word to (TermReq child) = unless_root to
acts_at_word to Term = unless_root to
acts_at_word to (TermAck child) = unless_root to
acts_at_word to (PipeBind e peer) = unless_root to
acts_at_word to (PipeTerm e) = unless_root to
acts_at_word to (PipeTermAck e) = unless_root to
acts_at_word to Stop = unless_root to
acts_at_word to (Reap socket) = None

-- the object that acts in a request: the asker, or the owner of the end that is asked
abbrev pub acts_in_request : Control → Req → Option ℕ
acts_in_request c (MakeSocket kind options) = None
acts_in_request c AskTerm = None
acts_in_request c (Bind o at) = Some o.0
acts_in_request c (Connect o at) = Some o.0
acts_in_request c (Unbind o at) = Some o.0
acts_in_request c (Disconnect o at) = Some o.0
acts_in_request c (Close o) = Some o.0
acts_in_request c (Accepted o) = Some o.0
acts_in_request c (Shaken o peer) = Some o.0
acts_in_request c (AskEnd e reason) = Some (owner_of c e)
acts_in_request c (AskOver o) = Some o.0
acts_in_request c (OutputOver o) = Some o.0

module _ {N S : Type 0} where
  abbrev pub taken_in : Did N S → Option ℕ
  taken_in (Asked req reply h) = taken_by_request req reply
  taken_in (Delivered slot letter h) = taken_by_word letter.to.0 letter.word
  taken_in (Delimited e h) = None

  abbrev pub given_up : Did N S → Option ℕ
  given_up (Asked req reply h) = given_by_request req
  given_up (Delivered slot letter h) = None
  given_up (Delimited e h) = None

  -- the object that acts in an event, which its caller has
  abbrev pub acts_in : Control → Did N S → Option ℕ
  acts_in c (Asked req reply h) = acts_in_request c req
  acts_in c (Delivered slot letter h) = acts_at_word letter.to.0 letter.word
  acts_in c (Delimited e h) = Some (owner_of c e)

  -- who has an object after an item: who took it in last, until it is given away
  abbrev pub has_then : ℕ → Item N S → Option ℕ → Option ℕ
  has_then i (Event entry) had =
      if is_owner i (taken_in entry.did) then Some entry.by else (if is_owner i (given_up entry.did) then None else had)
  has_then i (Seen sight) had = had

  abbrev pub has_over : ℕ → Option ℕ → List (Item N S) → Option ℕ
  has_over i had [] = had
  has_over i had (item ∷ items) = has_over i (has_then i item had) items

  -- the caller that has an object, if any
  abbrev pub has_after : ℕ → List (Item N S) → Option ℕ
  has_after i items = has_over i None items

  -- who acts for an object has it, and who takes an object in takes one that nobody has
  pub record IsBy (past : List (Item N S)) (c : Control) (did : Did N S) (by : ℕ) : Type 0 where
    pub acts : (i : ℕ) → acts_in c did ≡ Some i → has_after i past ≡ Some by
    pub takes : (i : ℕ) → taken_in did ≡ Some i → has_after i past ≡ None

  abbrev pub IsByItem : (past : List (Item N S)) → Control → Item N S → Type 0
  IsByItem past c (Event entry) = IsBy past c entry.did entry.by
  IsByItem past c (Seen sight) = Unit {0}

  -- each entry of a run is by a caller that may make it
  abbrev pub AreBy : (past : List (Item N S)) → Control → (items : List (Item N S)) → Type 0
  AreBy past c [] = Unit {0}
  AreBy past c (item ∷ items) = IsByItem past c item × AreBy (past ++ item ∷ []) (after_item item c) items
