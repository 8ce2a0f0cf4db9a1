-- One event as a worker makes it: an item, the delimiters that it writes, and what is looked at behind it (own choice, after libzmq's `pipe_t`).
use Rattle.std.specs.Prelude.{◌≡◌, ◌&&◌, ℕ, Bool, true, false, not, List, [], ◌∷◌, ◌++◌, filter, map}
use Rattle.zq_base.specs.declared.ids.EndId.{EndId}
use Rattle.spec_pattern.specs.PipeStep.{EmptyLook, WaitingLook, DelimiterLook, Seal, read_through}
use Rattle.spec_control.specs.declared.end.EndState.TheVariants.{Active, DelimiterGot, WaitDelimiter, AckSent, AskedOnce, AskedTwice, Gone}
use Rattle.spec_control.specs.declared.letter.Letter.{Letter}
use Rattle.spec_control.specs.declared.letter.Word.{Word}
use Rattle.spec_control.specs.declared.letter.Word.TheVariants.{Own, Plug, TermReq, Term, TermAck, PipeBind, PipeTerm, PipeTermAck, Stop, Reap}
use Rattle.spec_control.specs.declared.request.Req.{Req}
use Rattle.spec_control.specs.declared.request.Reply.{Reply}
use Rattle.spec_control.specs.declared.entry.Answered.{Answered}
use Rattle.spec_control.specs.declared.entry.Did.TheVariants.{Asked, Delivered, Delimited}
use Rattle.spec_control.specs.declared.entry.SeenEmpty.{SeenEmpty}
use Rattle.spec_control.specs.declared.entry.Sight.{Sight}
use Rattle.spec_control.specs.declared.entry.Item.TheVariants.{Event, Seen}
use Rattle.spec_control.specs.Place.{Place, Unmade, Away, At}
use Rattle.spec_control.specs.Control.{Control, place_of}
use Rattle.spec_control.specs.Moments.{Moment, left_by}
use Rattle.spec_run.specs.Act.{Act, Step, Said}
use Rattle.spec_run.specs.OpenSocket.{awaits_delimiter}

-- an end was asked and told the other end: the pipe that it writes has its delimiter
abbrev pub is_asked_once : Place → Bool
is_asked_once Unmade = false
is_asked_once Away = false
is_asked_once (At Active) = false
is_asked_once (At DelimiterGot) = false
is_asked_once (At WaitDelimiter) = false
is_asked_once (At AckSent) = false
is_asked_once (At AskedOnce) = true
is_asked_once (At AskedTwice) = false
is_asked_once (At Gone) = false

module _ {N S : Type 0} where
  -- the ends whose pipes get their delimiters in an item, in the order of attachment
  abbrev pub seals_in : Moment N S → List EndId
  seals_in m = filter (λ e. is_asked_once (place_of (left_by m) e) && not (is_asked_once (place_of m.found e))) (left_by m).attached

  -- an item with the delimiters that are written in it
  abbrev pub acts_said : Moment N S → List (Act N S)
  acts_said m = Said m ∷ map (λ e. Step (Seal e)) (seals_in m)

  -- the item is this request with this answer
  pub record IsRequest (req : Req) (reply : Reply) (m : Moment N S) : Type 0 where
    pub by : ℕ
    pub answered : Answered N S
    pub item_is : m.item ≡ Event (record { by = by; did = Asked req reply answered })

  -- the item is a delivery from this mailbox
  pub record IsDelivery (slot : ℕ) (letter : Letter) (m : Moment N S) : Type 0 where
    pub by : ℕ
    pub answered : Answered N S
    pub item_is : m.item ≡ Event (record { by = by; did = Delivered (record { 0 = slot }) letter answered })

  -- the item says that this end met its delimiter
  pub record IsDelimited (e : EndId) (m : Moment N S) : Type 0 where
    pub by : ℕ
    pub answered : Answered N S
    pub item_is : m.item ≡ Event (record { by = by; did = Delimited e answered })

  -- the item is a look at these mailboxes
  pub record IsLookAt (empty : SeenEmpty) (m : Moment N S) : Type 0 where
    pub sight : Sight
    pub empty_is : sight.empty ≡ empty
    pub item_is : m.item ≡ Seen sight

  -- a look at the front of the pipe that an end reads; a delimiter found there is said at once
  pub data LooksFront (e : EndId) (acts : List (Act N S)) : Type 0 where
    finds_none : acts ≡ Step (EmptyLook (read_through e)) ∷ [] → LooksFront e acts
    finds_one : acts ≡ Step (WaitingLook (read_through e)) ∷ [] → LooksFront e acts
    finds_end : (m : Moment N S) → IsDelimited e m → acts ≡ Step (DelimiterLook (read_through e)) ∷ acts_said m → LooksFront e acts

  -- a look at each of these ends, in order
  abbrev pub LooksFronts : List EndId → List (Act N S) → Type 0
  LooksFronts [] acts = acts ≡ []
  LooksFronts (e ∷ es) acts =
      (first : List (Act N S)) × (rest : List (Act N S)) × LooksFront e first × LooksFronts es rest × (acts ≡ first ++ rest)

  abbrev pub LooksWhere : Bool → EndId → List (Act N S) → Type 0
  LooksWhere true e acts = LooksFront e acts
  LooksWhere false e acts = acts ≡ []

  -- behind a PipeTerm that leaves its end to read on, the end's front is looked at
  abbrev pub LooksBehind : Control → Word → List (Act N S) → Type 0
  LooksBehind c (PipeTerm e) acts = LooksWhere (awaits_delimiter (place_of c e)) e acts
  LooksBehind c (Own child) acts = acts ≡ []
  LooksBehind c (Plug end) acts = acts ≡ []
  LooksBehind c (TermReq child) acts = acts ≡ []
  LooksBehind c Term acts = acts ≡ []
  LooksBehind c (TermAck child) acts = acts ≡ []
  LooksBehind c (PipeBind e peer) acts = acts ≡ []
  LooksBehind c (PipeTermAck e) acts = acts ≡ []
  LooksBehind c Stop acts = acts ≡ []
  LooksBehind c (Reap socket) acts = acts ≡ []

  -- one letter of a mailbox is taken
  pub record TakesLetter (slot : ℕ) (acts : List (Act N S)) : Type 0 where
    pub taken : Moment N S
    pub letter : Letter
    pub looks : List (Act N S)
    pub delivery : IsDelivery slot letter taken
    pub behind : LooksBehind (left_by taken) letter.word looks
    pub acts_are : acts ≡ acts_said taken ++ looks

  -- one letter after another
  abbrev pub TakesLetters : ℕ → List (List (Act N S)) → Type 0
  TakesLetters slot [] = Unit {0}
  TakesLetters slot (acts ∷ more) = TakesLetter slot acts × TakesLetters slot more
