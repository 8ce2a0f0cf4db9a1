-- What the calls of a socket's kind do to its state over the ends at its places (zmq_socket(3)).
use Rattle.std.specs.Prelude.{◌≡◌, ◌<◌, ℕ, Bool, true, false, List, All}
use Rattle.zq_base.specs.declared.attached.Attached.{Attached}
use Rattle.zq_base.specs.declared.ids.PairId.{PairId}
use Rattle.spec_pattern.specs.PipeStep.{same_pipe}
use Rattle.spec_pattern.specs.TurnList.{End}
use Rattle.spec_pattern.specs.Pattern.{Pattern, Router, attach_answer, attach_as, attach, detach}
use Rattle.router_dealer.specs.Named.{IsIdentity, most_drawn}
use Rattle.pub_sub.specs.Places.{is_place, AreApart, AreOthers}

-- the end at a peer's place is of this pair, and no two peers have one end
pub record IsPeersEnd (ends : ℕ → End) (pair : PairId) (place : ℕ) (peers : List ℕ) : Type 0 where
  pub known : is_place peers place ≡ true
  pub pair_is : (ends place).pair ≡ pair
  pub apart : AreApart ends peers

-- a peer of this identity can be named, if there is need for a name: it is one that a peer may say, and there is a name left to draw
abbrev pub CanJoin : List ℕ → Pattern → Type 0
CanJoin identity (Router r) = IsIdentity identity × (r.drawn < most_drawn)
CanJoin identity _ = Unit {0}

-- an end that is a peer or none stays so, and all else
abbrev pub StaysAs : {C : Type 0} → (is_peer stays : Bool) → (old new : C) → Type 0
StaysAs is_peer stays old new = (stays ≡ is_peer) × (new ≡ old)

module _ {C : Type 0} (pattern : (ℕ → End) → C → Pattern) where
  -- the state is the same, whatever ends are there
  abbrev pub IsAlike : (old new : C) → Type 0
  IsAlike old new = (ends : ℕ → End) → pattern ends new ≡ pattern ends old

  -- where a peer of this identity can be named, the answer is the kind's
  abbrev pub AnswersAs : (names : C → List ℕ → Type 0) → List ℕ → (old : C) → Attached → Type 0
  AnswersAs names identity old answer = names old identity → (ends : ℕ → End) → answer ≡ attach_answer identity (pattern ends old)

  -- the end at the place was attached, or refused, as the answer says
  abbrev pub AttachesAs : ℕ → List ℕ → Attached → (old new : C) → Type 0
  AttachesAs place identity answer old new = (ends : ℕ → End) → pattern ends new ≡ attach_as answer (ends place) identity (pattern ends old)

  -- the end at a peer's place, of this pair, was detached
  abbrev pub DetachesAs : PairId → ℕ → (peers : List ℕ) → (old new : C) → Type 0
  DetachesAs pair place peers old new = (ends : ℕ → End) → IsPeersEnd ends pair place peers → pattern ends new ≡ detach (ends place) (pattern ends old)

  -- an attach of the end at the place, which was no peer, led from the one state to the other, whatever it answered
  pub record CameBy (names : C → List ℕ → Type 0) (sound : C → Type 0) (peers : C → List ℕ) (place : ℕ) (before now : C) : Type 0 where
    pub is_sound : sound before
    pub no_peer : AreOthers place (peers before)
    pub identity : List ℕ
    pub can_name : names before identity
    pub attached : (ends : ℕ → End) → pattern ends now ≡ attach (ends place) identity (pattern ends before)

  -- an end that is none of its peers' leaves nothing behind
  abbrev pub KnowsItsPeers : (peers : List ℕ) → C → Type 0
  KnowsItsPeers peers s = (ends : ℕ → End) (e : End) → All (λ k. same_pipe e (ends k) ≡ false) peers → detach e (pattern ends s) ≡ pattern ends s

  -- the end at the place was detached, if it was a peer's
  pub record GoesAs (is_peer : Bool) (pair : PairId) (place : ℕ) (peers : List ℕ) (old new : C) : Type 0 where
    pub peer : is_peer ≡ true → DetachesAs pair place peers old new
    pub none : is_peer ≡ false → new ≡ old
    pub knows : KnowsItsPeers peers old

  -- the attach of the end at the place was undone, if it was a peer's
  pub record UndoesAs (names : C → List ℕ → Type 0) (sound : C → Type 0) (peers : C → List ℕ) (is_peer : Bool) (place : ℕ) (old new : C) : Type 0 where
    pub peer : is_peer ≡ true → (before : C) → CameBy names sound peers place before old → IsAlike before new
    pub none : is_peer ≡ false → new ≡ old

  -- it names each peer that can be named
  abbrev pub NamesWhere : (names : C → List ℕ → Type 0) → C → Type 0
  NamesWhere names s = (ends : ℕ → End) (identity : List ℕ) → CanJoin identity (pattern ends s) → names s identity
