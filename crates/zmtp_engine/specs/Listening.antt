-- What is kept of a peer's stream with its greeting.
use Rattle.std.specs.Prelude.{◌≡◌, ℕ, ◌+◌, ◌<◌, ◌≤◌, ◌^◌, ◌==◌, ◌&&◌, Bool, if◌then◌else◌, is_none, List, [], ◌++◌, length, take, Option, Some, None, IsSome}
use Rattle.zq_base.specs.declared.options.EngineOpts.{EngineOpts}
use Rattle.zq_base.specs.declared.options.Role.{Role}
use Rattle.spec_zmtp.specs.declared.cause.Refusal.{Refusal}
use Rattle.spec_zmtp.specs.Greeting.{greeting_refusal}
use Rattle.spec_zmtp.specs.DecodedStream.{Outcome, Unfinished, Refused, Decoded, Decodes, octets_said}
use Rattle.zmtp_engine.specs.Hearing.{Hearing, Hears, IsSettled}

-- the octets of the greeting that came, why it is refused, and what is kept of the octets behind it
pub record Listening : Type 0 where
  pub role : Role
  pub greeting : List ℕ
  pub fault : Option Refusal
  pub hearing : Hearing

-- the greeting is as far as it came, and what follows it was heard
pub record Greeted (opts : EngineOpts) (octets : List ℕ) (given : List (List (List ℕ))) (l : Listening) : Type 0 where
  pub more : List ℕ
  pub all : octets ≡ l.greeting ++ more
  pub fine : greeting_refusal opts.role l.greeting ≡ None
  pub fits : length l.greeting ≤ 64
  pub short : length l.greeting < 64 → more ≡ []
  pub hears : Hears opts more given l.hearing
  pub role : l.role ≡ opts.role

-- a front of the octets is no greeting
pub record Faulted (opts : EngineOpts) (octets : List ℕ) (given : List (List (List ℕ))) (l : Listening) (fault : Refusal) : Type 0 where
  pub front : List ℕ
  pub rest : List ℕ
  pub all : octets ≡ front ++ rest
  pub bad : greeting_refusal opts.role front ≡ Some fault
  pub hears : Hears opts [] given l.hearing
  pub role : l.role ≡ opts.role

-- either, by whether a fault is kept
abbrev pub ListensAt : EngineOpts → List ℕ → List (List (List ℕ)) → Listening → Option Refusal → Type 0
ListensAt opts octets given l None = Greeted opts octets given l
ListensAt opts octets given l (Some fault) = Faulted opts octets given l fault

-- this is kept by an engine of these options of these octets, once these messages were taken out
abbrev pub ListensTo : EngineOpts → List ℕ → List (List (List ℕ)) → Listening → Type 0
ListensTo opts octets given l = ListensAt opts octets given l l.fault

-- the peer's greeting is accepted
abbrev pub is_greeted : Listening → Bool
is_greeted l = is_none l.fault && (length l.greeting == 64)

-- all that is said so far: our greeting, and the rest once the peer's is accepted
abbrev pub said_now : Listening → List ℕ
said_now l = if is_greeted l then l.hearing.said else take 64 l.hearing.said

-- the refusal of the stream
abbrev pub refusal_now : Listening → Option Refusal
refusal_now l = if is_none l.fault then l.hearing.refused else l.fault

-- no frame waits to be taken up, once the greeting is accepted
abbrev pub IsSettledNow : Listening → Type 0
IsSettledNow l = IsSettled l.hearing

-- how many octets of the unfinished greeting, message or command came
abbrev pub rest_now : Listening → ℕ
rest_now l = if is_greeted l then l.hearing.earlier + l.hearing.begun else length l.greeting

-- how a stream stands, by its refusal and the octets of what is unfinished
abbrev pub outcome_by : Option Refusal → ℕ → Outcome
outcome_by (Some r) n = Refused r
outcome_by None n = Unfinished n

-- what is kept is what the octets mean
pub record Means (opts : EngineOpts) (octets : List ℕ) (given : List (List (List ℕ))) (l : Listening) (d : Decoded) : Type 0 where
  pub decodes : Decodes opts octets d
  pub said : octets_said opts d ≡ said_now l
  pub peer : d.peer ≡ l.hearing.peer
  pub messages : d.messages ≡ given ++ l.hearing.queue
  pub outcome : d.outcome ≡ outcome_by (refusal_now l) (rest_now l)
  pub small : refusal_now l ≡ None → rest_now l < 2 ^ 64

-- ---- a step of the greeting

-- so many octets of a piece were taken for the greeting: up to the one at which it is refused, or whole
pub record Greets (old new : Listening) (piece : List ℕ) (n : ℕ) : Type 0 where
  pub role : new.role ≡ old.role
  pub hearing : new.hearing ≡ old.hearing
  pub filled : new.greeting ≡ old.greeting ++ take n piece
  pub within : n ≤ length piece
  pub few : length old.greeting + n ≤ 64
  pub told : 0 < n → new.fault ≡ greeting_refusal new.role new.greeting
  pub still : n ≡ 0 → new.fault ≡ None
  pub all : new.fault ≡ None → length old.greeting + n < 64 → n ≡ length piece
  pub before : IsSome new.fault → (m : ℕ) × (n ≡ m + 1) × (0 < m → greeting_refusal new.role (old.greeting ++ take m piece) ≡ None)
