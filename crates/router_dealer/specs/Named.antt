-- A ROUTER over its attached ends, by their places (RFC 28, "The ROUTER Socket Type").
use Rattle.std.specs.Prelude.{◌≡◌, ◌≢◌, ◌≤◌, ◌⊎◌, ◌+◌, ℕ, Bool, true, false, List, [], ◌∷◌, ◌++◌, length, drop, nat_eq, Option, Some, None, IsSome, Result, Ok, Err, All, Contains, map}
use Rattle.zq_base.specs.Message.{Frames}
use Rattle.zq_base.specs.declared.ids.PairId.{PairId}
use Rattle.msg_pipe.specs.Turns.{without_place}
use Rattle.spec_pattern.specs.PipeStep.{PipeStep, Commit, FullLook}
use Rattle.spec_pattern.specs.TurnList.{End}
use Rattle.spec_pattern.specs.Routing.{named, drawn_name, RouterSends, RouterReceives}
use Rattle.spec_pattern.specs.Results.{answer_of}
use Rattle.router_dealer.specs.PlaceNames.{PlaceName, names_at, place_named, name_placed, AreApart, without_name_at}
use Rattle.spec_pattern.specs.declared.answers.Rule.TheVariants.{RouteFull, Unroutable}
use Rattle.spec_pattern.specs.declared.answers.SendRefusal.TheVariants.{Again, Unreachable}
use Rattle.spec_pattern.specs.declared.answers.SendAnswer.{SendAnswer}
use Rattle.spec_pattern.specs.declared.answers.SendAnswer.TheVariants as sent
use Rattle.spec_pattern.specs.declared.answers.Sent.{Sent}
use Rattle.spec_pattern.specs.declared.answers.Sent.TheVariants as now
use Rattle.spec_pattern.specs.declared.answers.SendFault.{SendFault}
use Rattle.spec_pattern.specs.declared.answers.SendFault.TheVariants as send
use Rattle.spec_pattern.specs.declared.answers.RecvAnswer.{RecvAnswer}
use Rattle.spec_pattern.specs.declared.answers.RecvAnswer.TheVariants as got
use Rattle.spec_pattern.specs.declared.answers.RecvFault.{RecvFault}
use Rattle.spec_pattern.specs.declared.answers.RecvFault.TheVariants as recv
use Rattle.zq_base.specs.declared.attached.Attached.{Attached}
use Rattle.zq_base.specs.declared.attached.Attached.TheVariants as attached

-- a message that was taken, with its pair and behind its name, and is still to be given
pub record Kept : Type 0 where
  pub pair : PairId
  pub message : Frames

-- a ROUTER: its ends in the order of their turns, the names of their peers in the order of attachment, how many names were drawn, whether a send that can't be routed is refused, and the message that want of memory kept
pub record RouterState : Type 0 where
  pub ins : List ℕ
  pub names : List PlaceName
  pub drawn : ℕ
  pub mandatory : Bool
  pub kept : Option Kept

-- the place has a name
abbrev pub HasName : List PlaceName → ℕ → Type 0
HasName names place = (name : List ℕ) × (place_named names name ≡ Some place)

-- a name that is a peer's own: it doesn't begin with octet 0
abbrev pub IsOwn : List ℕ → Type 0
IsOwn [] = ⊥
IsOwn (octet ∷ octets) = octet ≢ 0

-- the most names that are ever drawn: each has four octets for its number, from 1
abbrev pub most_drawn : ℕ
most_drawn = 4294967295

-- a name that was drawn, of so many
abbrev pub IsDrawn : ℕ → List ℕ → Type 0
IsDrawn drawn name = (n : ℕ) × (1 ≤ n) × (n ≤ drawn) × (name ≡ drawn_name n)

-- each name is a peer's own, or one of those that were drawn
abbrev pub AreOwnOrDrawn : ℕ → List PlaceName → Type 0
AreOwnOrDrawn drawn names = (name : List ℕ) (place : ℕ) → place_named names name ≡ Some place → IsOwn name ⊎ IsDrawn drawn name

-- each place with a name has turns
abbrev pub HaveTurns : List ℕ → List PlaceName → Type 0
HaveTurns ins names = (name : List ℕ) (place : ℕ) → place_named names name ≡ Some place → Contains ins place

-- no name and no place occurs twice, each end that has turns has one and no other end has, and no name could be drawn later on
pub record IsRouter (r : RouterState) : Type 0 where
  pub apart : AreApart r.names
  pub named : All (HasName r.names) r.ins
  pub have_turns : HaveTurns r.ins r.names
  pub own_or_drawn : AreOwnOrDrawn r.drawn r.names

-- no ends yet, and nothing kept
abbrev pub no_ends : Bool → RouterState
no_ends mandatory = record { ins = []; names = []; drawn = 0; mandatory = mandatory; kept = None }

-- what a peer may say as its identity: nothing, or 1 to 255 octets of which the first isn't 0
abbrev pub IsIdentity : List ℕ → Type 0
IsIdentity [] = Unit {0}
IsIdentity (octet ∷ octets) = (octet ≢ 0) × (length octets ≤ 254)

-- the identity is some octets that a peer has as its name
abbrev pub IsTaken : List PlaceName → List ℕ → Type 0
IsTaken names [] = ⊥
IsTaken names (octet ∷ octets) = IsSome (place_named names (octet ∷ octets))

-- the test says of each named end whether it can be written
abbrev pub TellsNamed : (ℕ → End) → (End → Bool) → (ℕ → Bool) → List PlaceName → Type 0
TellsNamed ends can_write writable names = (name : List ℕ) (place : ℕ) → place_named names name ≡ Some place → can_write (ends place) ≡ writable place

-- an end that has no name
abbrev pub IsNew : ℕ → RouterState → Type 0
IsNew place r = name_placed r.names place ≡ None

-- the end at the place is attached under this name
abbrev pub named_state : List ℕ → ℕ → RouterState → RouterState
named_state name place r = record r { ins = r.ins ++ place ∷ []; names = r.names ++ record { name = name; place = place } ∷ [] }

-- the end is attached: under its own name, or where it has none under one that is drawn
abbrev pub attached_state : List ℕ → ℕ → RouterState → RouterState
attached_state [] place r = record (named_state (drawn_name (r.drawn + 1)) place r) { drawn = r.drawn + 1 }
attached_state (octet ∷ octets) place r = named_state (octet ∷ octets) place r

-- the end at the place is a peer no longer, and its name is free
abbrev pub detached_state : ℕ → RouterState → RouterState
detached_state place r = record r { ins = without_place place r.ins; names = without_name_at place r.names }

-- what an attach did, by its result
abbrev pub Attaches : {E : Type 0} → List ℕ → ℕ → RouterState → Result Attached E → RouterState → Type 0
Attaches identity place old (Ok attached.Yes) new = new ≡ attached_state identity place old
Attaches identity place old (Ok attached.BadId) new = new ≡ old
Attaches identity place old (Ok attached.Second) new = ⊥
Attaches identity place old (Err e) new = new ≡ old

-- the end at the place is no peer: it has neither turns nor a name
pub record IsNoPeer (place : ℕ) (r : RouterState) : Type 0 where
  pub no_turn : All (λ k. nat_eq place k ≡ false) r.ins
  pub no_name : IsNew place r

-- an attach of the end at the place, which was no peer, led from the one state to the other, whatever it answered
pub record CameByAttach (place : ℕ) (before now : RouterState) : Type 0 where
  pub no_peer : IsNoPeer place before
  pub identity : List ℕ
  pub may_be : IsIdentity identity
  pub answer : Attached
  pub attached : Attaches {E = Unit {0}} identity place before (Ok answer) now

-- a message whose peer isn't there: it is handed back, or given up
abbrev pub where_missing : Bool → Frames → Result Sent SendFault
where_missing true m = Err (send.Refused Unreachable m)
where_missing false m = Ok (now.Dropped Unroutable)

-- a receive where a message is kept gives it, or it stays for want of memory
abbrev pub GivesKept : Kept → Result (PairId × Frames) RecvFault → Option Kept → Type 0
GivesKept k (Ok item) new = (item.0 ≡ k.pair) × (item.1 ≡ k.message) × (new ≡ None)
GivesKept k (Err fault) new = (fault ≡ recv.OutOfMemory) × (new ≡ Some k)

-- the same of what keeps it
abbrev pub GivesHeld : {E : Type 0} → Option Kept → Result (Option (PairId × Frames)) E → Option Kept → Type 0
GivesHeld None (Ok None) new = new ≡ None
GivesHeld None (Ok (Some item)) new = ⊥
GivesHeld None (Err e) new = ⊥
GivesHeld (Some k) (Ok None) new = ⊥
GivesHeld (Some k) (Ok (Some item)) new = (item.0 ≡ k.pair) × (item.1 ≡ k.message) × (new ≡ None)
GivesHeld (Some k) (Err e) new = new ≡ Some k

-- a message that was taken at the place is given behind its name, or kept so for want of memory
abbrev pub GivesNamed : ℕ → PairId → Frames → RouterState → Result (PairId × Frames) RecvFault → RouterState → Type 0
GivesNamed place pair m old (Ok item) new =
    (name : List ℕ) × (place_named old.names name ≡ Some place) × (item.0 ≡ pair) × (item.1 ≡ name ∷ m) × (new ≡ old)
GivesNamed place pair m old (Err (recv.Refused refusal)) new = ⊥
GivesNamed place pair m old (Err recv.OutOfMemory) new =
    (name : List ℕ) × (place_named old.names name ≡ Some place)
    × (new ≡ record old { kept = Some (record { pair = pair; message = name ∷ m }) })

module _ {S : Type 0} (runs : S → List PipeStep → S → Type 0) where
  -- what a put of a message's rest at the end that its first frame names did, by its result
  abbrev pub PutsRest : Bool → End → Frames → S → S → Result Sent SendFault → Type 0
  PutsRest mandatory e m old new (Ok (now.One pair)) = (pair ≡ e.pair) × runs old (Commit e (drop 1 m) ∷ []) new
  PutsRest mandatory e m old new (Ok (now.Dropped rule)) = (mandatory ≡ false) × (rule ≡ RouteFull) × runs old (FullLook e ∷ []) new
  PutsRest mandatory e m old new (Ok (now.Many report)) = ⊥
  PutsRest mandatory e m old new (Ok now.Subscribed) = ⊥
  PutsRest mandatory e m old new (Err (send.Refused refusal back)) =
      (mandatory ≡ true) × (refusal ≡ Again) × (back ≡ m) × runs old (FullLook e ∷ []) new
  PutsRest mandatory e m old new (Err (send.OutOfMemory back)) = (mandatory ≡ true) × (back ≡ m) × (new ≡ old)

module _ {S : Type 0} (runs : S → List PipeStep → S → Type 0) (ends : ℕ → End) where
  -- the calls between the two states made the steps of a send of the ROUTER, which it stays as it was
  pub record RouterSent (writable : ℕ → Bool) (m : Frames) (old new : S) (r : RouterState) (answer : SendAnswer) : Type 0 where
    pub steps : List PipeStep
    pub runs_are : runs old steps new
    pub step : (can_write : End → Bool) → TellsNamed ends can_write writable r.names →
        RouterSends r.mandatory can_write (named (names_at ends r.names)) m steps answer

  -- the calls between the two states made the steps of a receive of the ROUTER that took from its peers
  pub record RouterGot (old new : S) (r : RouterState) (answer : RecvAnswer) (turns : List ℕ) : Type 0 where
    pub steps : List PipeStep
    pub runs_are : runs old steps new
    pub step : RouterReceives (named (names_at ends r.names)) (map ends r.ins) steps answer (map ends turns)

  -- what a send did, by its result: want of memory comes only where a message may be refused, and leaves all as it was
  abbrev pub SendsNamed : (ℕ → Bool) → Frames → S → S → RouterState → Result Sent SendFault → Type 0
  SendsNamed writable m old new r (Ok s) = RouterSent writable m old new r (answer_of s)
  SendsNamed writable m old new r (Err (send.Refused refusal back)) = RouterSent writable m old new r (sent.Refused refusal) × (back ≡ m)
  SendsNamed writable m old new r (Err (send.OutOfMemory back)) = (r.mandatory ≡ true) × (back ≡ m) × (new ≡ old)

  -- what a receive did where nothing was kept, by its result: for want of memory the message that was taken is kept
  abbrev pub TakesNamed : S → S → RouterState → Result (PairId × Frames) RecvFault → RouterState → Type 0
  TakesNamed old new r (Ok item) r' = RouterGot old new r (got.Got item.0 item.1) r'.ins × (r'.kept ≡ None)
  TakesNamed old new r (Err (recv.Refused refusal)) r' = RouterGot old new r (got.Refused refusal) r'.ins × (r'.kept ≡ None)
  TakesNamed old new r (Err recv.OutOfMemory) r' =
      (k : Kept) × RouterGot old new r (got.Got k.pair k.message) r'.ins × (r'.kept ≡ Some k)

  -- what a receive did: a message that is kept comes first, and no peer is looked at
  abbrev pub ReceivesNamed : S → S → RouterState → Option Kept → Result (PairId × Frames) RecvFault → RouterState → Type 0
  ReceivesNamed old new r None result r' = TakesNamed old new r result r'
  ReceivesNamed old new r (Some k) result r' = (new ≡ old) × (r'.ins ≡ r.ins) × GivesKept k result r'.kept
