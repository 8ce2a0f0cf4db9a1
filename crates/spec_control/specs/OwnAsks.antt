-- What a caller's own items say of its objects, and so which requests it may make (own choice).
use Rattle.std.specs.Prelude.{◌≡◌, ◌==◌, ◌&&◌, ◌||◌, ℕ, Bool, true, false, not, List, [], ◌∷◌, Some, None, if◌then◌else◌}
use Rattle.std.specs.List.{list_any}
use Rattle.zq_base.specs.declared.ids.EndId.{EndId}
use Rattle.spec_control.specs.declared.end.Reason.{Reason}
use Rattle.spec_control.specs.declared.end.Reason.TheVariants.{Closed, BadId, Second, Linger, Link}
use Rattle.spec_control.specs.declared.letter.Word.{Word}
use Rattle.spec_control.specs.declared.letter.Word.TheVariants.{Own, Plug, TermReq, Term, TermAck, PipeBind, PipeTerm, PipeTermAck, Stop, Reap}
use Rattle.spec_control.specs.declared.request.Req.{Req}
use Rattle.spec_control.specs.declared.request.Req.TheVariants.{Socket as MakeSocket, AskTerm, Bind, Connect, Unbind, Disconnect, Close, Accepted, Shaken, AskEnd, AskOver, OutputOver}
use Rattle.spec_control.specs.declared.request.Reply.{Reply}
use Rattle.spec_control.specs.declared.entry.Did.{Did}
use Rattle.spec_control.specs.declared.entry.Did.TheVariants.{Asked, Delivered, Delimited}
use Rattle.spec_control.specs.declared.entry.Item.{Item}
use Rattle.spec_control.specs.declared.entry.Item.TheVariants.{Event, Seen}
use Rattle.spec_control.specs.Rows.{is_owner}
use Rattle.spec_control.specs.Control.{is_end}
use Rattle.spec_control.specs.Held.{ends_after}
use Rattle.spec_control.specs.Has.{made_by}

-- what a caller knows of an object by its own items
pub record Known : Type 0 where
  -- a socket that it made and did not close
  pub open_socket : Bool
  -- what it took in
  pub listener : Bool
  pub session : Bool
  pub accepted : Bool
  -- the object's Term was processed
  pub told : Bool
  -- what it asked for the object, each once at most
  pub shaken : Bool
  pub asked_over : Bool
  -- output was left when the session last tried to end
  pub output_left : Bool

-- nothing
abbrev pub unknown : Known
unknown = record { open_socket = false; listener = false; session = false; accepted = false; told = false; shaken = false; asked_over = false; output_left = false }

-- of object i, behind a request
abbrev pub known_at_request : ℕ → Req → Reply → Known → Known
known_at_request i (MakeSocket kind options) reply k = if is_owner i (made_by reply) then record k { open_socket = true } else k
known_at_request i AskTerm reply k = k
known_at_request i (Bind o at) reply k = k
known_at_request i (Connect o at) reply k = k
known_at_request i (Unbind o at) reply k = k
known_at_request i (Disconnect o at) reply k = k
known_at_request i (Close o) reply k = if o.0 == i then record k { open_socket = false } else k
known_at_request i (Accepted o) reply k = if is_owner i (made_by reply) then record k { session = true; accepted = true } else k
known_at_request i (Shaken o peer) reply k = if o.0 == i then record k { shaken = true } else k
known_at_request i (AskEnd e reason) reply k = k
known_at_request i (AskOver o) reply k = if o.0 == i then record k { asked_over = true } else k
known_at_request i (OutputOver o) reply k = if o.0 == i then record k { output_left = false } else k

-- of the object that gets a command, behind it
abbrev pub known_at_word : Word → (left : Bool) → Known → Known
known_at_word (Own child) left k = k
known_at_word (Plug None) left k = record k { listener = true }
known_at_word (Plug (Some e)) left k = record k { session = true }
known_at_word (TermReq child) left k = k
known_at_word Term left k = record k { told = true; output_left = left }
known_at_word (TermAck child) left k = record k { output_left = left }
known_at_word (PipeBind e peer) left k = k
known_at_word (PipeTerm e) left k = k
known_at_word (PipeTermAck e) left k = record k { output_left = left }
known_at_word Stop left k = k
known_at_word (Reap socket) left k = k

-- the caller asked this end with this reason
abbrev pub is_reason : Reason → Reason → Bool
is_reason Linger Linger = true
is_reason Linger Closed = false
is_reason Linger BadId = false
is_reason Linger Second = false
is_reason Linger Link = false
is_reason Link Link = true
is_reason Link Closed = false
is_reason Link BadId = false
is_reason Link Second = false
is_reason Link Linger = false
is_reason Closed reason = false
is_reason BadId reason = false
is_reason Second reason = false

abbrev pub asks_end : EndId → Reason → Req → Bool
asks_end e reason (MakeSocket kind options) = false
asks_end e reason AskTerm = false
asks_end e reason (Bind o at) = false
asks_end e reason (Connect o at) = false
asks_end e reason (Unbind o at) = false
asks_end e reason (Disconnect o at) = false
asks_end e reason (Close o) = false
asks_end e reason (Accepted o) = false
asks_end e reason (Shaken o peer) = false
asks_end e reason (AskEnd d given) = is_end e d && is_reason reason given
asks_end e reason (AskOver o) = false
asks_end e reason (OutputOver o) = false

abbrev pub is_none : {X : Type 0} → List X → Bool
is_none [] = true
is_none (x ∷ xs) = false

module _ {N S : Type 0} where
  abbrev pub known_in : ℕ → Did N S → Known → Known
  known_in i (Asked req reply h) k = known_at_request i req reply k
  known_in i (Delivered slot letter h) k = if letter.to.0 == i then known_at_word letter.word h.output_left k else k
  known_in i (Delimited e h) k = k

  abbrev pub known_over : ℕ → Known → List (Item N S) → Known
  known_over i k [] = k
  known_over i k (Event entry ∷ items) = known_over i (known_in i entry.did k) items
  known_over i k (Seen sight ∷ items) = known_over i k items

  abbrev pub known_after : ℕ → List (Item N S) → Known
  known_after i items = known_over i unknown items

  abbrev pub is_ask : EndId → Reason → Item N S → Bool
  is_ask e reason (Event entry) = is_ask_in entry.did
    where
      is_ask_in : Did N S → Bool
      is_ask_in (Asked req reply h) = asks_end e reason req
      is_ask_in (Delivered slot letter h) = false
      is_ask_in (Delimited d h) = false
  is_ask e reason (Seen sight) = false

  -- a listener or session has no child, so it ends once it was told, has no end and has no output left
  abbrev pub waits_for_output : ℕ → List (Item N S) → Bool
  waits_for_output i items = (known_after i items).told && is_none (ends_after i items)

  abbrev pub is_over : ℕ → List (Item N S) → Bool
  is_over i items = waits_for_output i items && not (known_after i items).output_left

  -- a session gives its end a reason once: `link` where it was accepted, `linger` once it was told
  abbrev pub GivesOwn : Reason → EndId → ℕ → List (Item N S) → Type 0
  GivesOwn Closed e i items = ⊥
  GivesOwn BadId e i items = ⊥
  GivesOwn Second e i items = ⊥
  GivesOwn Linger e i items = ((known_after i items).told ≡ true) × (list_any (is_ask e Linger) items ≡ false)
  GivesOwn Link e i items = ((known_after i items).accepted ≡ true) × (list_any (is_ask e Link) items ≡ false)

  -- an end that one of its sessions has
  pub record MayAskEndOwn (items : List (Item N S)) (e : EndId) (reason : Reason) : Type 0 where
    pub owner : ℕ
    pub session : (known_after owner items).session ≡ true
    pub has : list_any (λ h. is_end e h.end) (ends_after owner items) ≡ true
    pub gives : GivesOwn reason e owner items

  -- a listener or session that lives and did not ask to end before
  pub record MayAskOverOwn (items : List (Item N S)) (i : ℕ) : Type 0 where
    pub taken_in : ((known_after i items).listener || (known_after i items).session) ≡ true
    pub lives : is_over i items ≡ false
    pub first_time : (known_after i items).asked_over ≡ false

  -- an accepted session that was not told, and whose pair it did not make
  pub record MayShakeOwn (items : List (Item N S)) (i : ℕ) : Type 0 where
    pub accepted : (known_after i items).accepted ≡ true
    pub untold : (known_after i items).told ≡ false
    pub unmade : (known_after i items).shaken ≡ false

  -- a session that waits for its output alone
  pub record MayBeOverOwn (items : List (Item N S)) (i : ℕ) : Type 0 where
    pub session : (known_after i items).session ≡ true
    pub waits : waits_for_output i items ≡ true
    pub left : (known_after i items).output_left ≡ true

  -- who may make which request, as far as its own items say
  abbrev pub MayAskOwn : List (Item N S) → Req → Type 0
  MayAskOwn items (MakeSocket kind options) = Unit {0}
  MayAskOwn items AskTerm = Unit {0}
  MayAskOwn items (Bind o at) = (known_after o.0 items).open_socket ≡ true
  MayAskOwn items (Connect o at) = (known_after o.0 items).open_socket ≡ true
  MayAskOwn items (Unbind o at) = (known_after o.0 items).open_socket ≡ true
  MayAskOwn items (Disconnect o at) = (known_after o.0 items).open_socket ≡ true
  MayAskOwn items (Close o) = (known_after o.0 items).open_socket ≡ true
  MayAskOwn items (Accepted o) = ((known_after o.0 items).listener ≡ true) × (is_over o.0 items ≡ false)
  MayAskOwn items (Shaken o peer) = MayShakeOwn items o.0
  MayAskOwn items (AskEnd e reason) = MayAskEndOwn items e reason
  MayAskOwn items (AskOver o) = MayAskOverOwn items o.0
  MayAskOwn items (OutputOver o) = MayBeOverOwn items o.0
