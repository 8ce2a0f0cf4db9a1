-- What a call of the control plane did to the ends of a socket, in order, and to its kind's state by it (zmq_socket(3); own choice).
use Rattle.std.specs.Prelude.{◌≡◌, ◌≢◌, ℕ, true, List, [], ◌∷◌, ◌++◌, Some, map, if◌then◌else◌}
use Rattle.zq_base.specs.declared.attached.Attached.TheVariants.{Yes}
use Rattle.zq_base.specs.declared.ids.EndId.{EndId}
use Rattle.spec_pattern.specs.TurnList.{End}
use Rattle.spec_pattern.specs.Pattern.{Pattern, attach_answer, attach_as}
use Rattle.spec_control.specs.declared.end.EndState.{EndState}
use Rattle.spec_control.specs.declared.entry.Joining.{Joining}
use Rattle.spec_control.specs.Place.{At}
use Rattle.spec_run.specs.OpenSocket.{is_out, attach_all, detach_all, AreAnswered}
use Rattle.end_table.specs.declared.table.Place.{Place}
use Rattle.end_table.specs.Places.{place_at}
use Rattle.end_table.specs.Changes.{AreMakings}
use Rattle.end_table.specs.declared.changes.PipeChange.{PipeChange}
use Rattle.sock_core.specs.declared.joint.JoinNote.{JoinNote}
use Rattle.sock_core.specs.declared.joint.JoinNote.TheVariants.{Joined, TakenBack, Turned}
use Rattle.sock_core.specs.declared.sock.SockCore.{SockCore}
use Rattle.sock_core.specs.Peers.{is_taken}
use Rattle.sock_core.specs.Patterns.{IsAlike, CameBy, CanJoin}
use Rattle.sock_core.specs.Standing.{joining_as, standing_joins}

-- the ends that joined and were not taken back, the last first, each with its place, and the changes of state
pub record Way (N : Type 0) : Type 0 where
  pub joined : List (Joining N × ℕ)
  pub turns : List (EndId × EndState)

abbrev pub without_first : {A : Type 0} → List A → List A
without_first [] = []
without_first (x ∷ xs) = xs

-- of the ends that changed their states, those that are neither written nor read any more, in order
abbrev pub outs_of : List (EndId × EndState) → List EndId
outs_of [] = []
outs_of (t ∷ ts) = if is_out (At t.1) then t.0 ∷ outs_of ts else outs_of ts

module _ {N : Type 0} where
  abbrev pub no_way : Way N
  no_way = record { joined = []; turns = [] }

  -- an end joined at a place; the one that joined last was taken back; an end changed its state
  abbrev pub with_came : Joining N → ℕ → Way N → Way N
  with_came j place w = record { joined = (j, place) ∷ w.joined; turns = w.turns }

  abbrev pub with_undone : Way N → Way N
  with_undone w = record { joined = without_first w.joined; turns = w.turns }

  abbrev pub with_turned : EndId → EndState → Way N → Way N
  with_turned e state w = record { joined = w.joined; turns = w.turns ++ (e, state) ∷ [] }

  abbrev pub then_noted : Way N → JoinNote N → (peer : List ℕ) → Way N
  then_noted w (Joined joint answer) peer = with_came (joining_as joint peer answer) joint.place w
  then_noted w TakenBack peer = with_undone w
  then_noted w (Turned e state) peer = with_turned e state w

  abbrev pub way_from : Way N → List (JoinNote N × List ℕ) → Way N
  way_from w [] = w
  way_from w (note ∷ notes) = way_from (then_noted w note.0 note.1) notes

  abbrev pub way_in : List (JoinNote N × List ℕ) → Way N
  way_in notes = way_from no_way notes

  -- those that joined, the first first
  abbrev pub oldest_first : List (Joining N × ℕ) → List (Joining N)
  oldest_first [] = []
  oldest_first (x ∷ xs) = oldest_first xs ++ x.0 ∷ []

  -- none of these stands at this place
  abbrev pub IsElse : ℕ → List (Joining N × ℕ) → Type 0
  IsElse place [] = Unit {0}
  IsElse place (x ∷ xs) = (x.1 ≢ place) × IsElse place xs

  -- each of these can be named when it joins
  abbrev pub CanJoinAll : List (Joining N) → Pattern → Type 0
  CanJoinAll [] p = Unit {0}
  CanJoinAll (j ∷ js) p = CanJoin j.peer p × CanJoinAll js (attach_as j.answer j.end j.peer p)

module _ {N I : Type 0} where
  -- these ends are at the places
  abbrev pub IsNaming : List (Place N I) → (ℕ → EndId) → Type 0
  IsNaming ps ends = (k : ℕ) (p : Place N I) → place_at ps k ≡ Some p → ends k ≡ p.end

  -- an end that joined stands at its place, and is a peer as its kind answered while no end changed its state
  pub record StandsAs (ps : List (Place N I)) (turns : List (EndId × EndState)) (x : Joining N × ℕ) : Type 0 where
    pub place : Place N I
    pub there : place_at ps x.1 ≡ Some place
    pub end_is : place.end ≡ x.0.end
    pub flag : turns ≡ [] → place.peer ≡ is_taken x.0.answer

  abbrev pub AllStand : List (Place N I) → List (EndId × EndState) → List (Joining N × ℕ) → Type 0
  AllStand ps turns [] = Unit {0}
  AllStand ps turns (x ∷ xs) = StandsAs ps turns x × AllStand ps turns xs

  -- an end that joined is held at its place
  pub record IsHeldAt (ps : List (Place N I)) (x : Joining N × ℕ) : Type 0 where
    pub place : Place N I
    pub there : place_at ps x.1 ≡ Some place
    pub end_is : place.end ≡ x.0.end
    pub held : place.held ≡ true

  -- so is each of these, at a place of its own
  abbrev pub AreHeld : List (Place N I) → List (Joining N × ℕ) → Type 0
  AreHeld ps [] = Unit {0}
  AreHeld ps (x ∷ xs) = IsHeldAt ps x × (IsElse x.1 xs × AreHeld ps xs)

  -- no end changed its state yet, no more was done to pipes than to make some, and these joined, the last first, which are held at their places
  pub record IsCalm {O S : Type 0} (w : Way N) (ps : List (Place N I)) (changes : List (PipeChange O I × S)) (came : List EndId) : Type 0 where
    pub quiet : w.turns ≡ []
    pub makings : AreMakings changes
    pub ends : map (λ x. x.0.end) w.joined ≡ came
    pub held : AreHeld ps w.joined

module _ {C : Type 0} (pattern : (ℕ → End) → C → Pattern) (names : C → List ℕ → Type 0) (sound : C → Type 0) (peers : C → List ℕ) where
  -- this end joined between two states of the kind
  pub record CameAs {N : Type 0} (x : Joining N × ℕ) (before now : C) : Type 0 where
    pub attached : (ends : ℕ → End) → pattern ends now ≡ attach_as x.0.answer (ends x.1) x.0.peer (pattern ends before)
    pub taken : x.0.answer ≡ Yes → CameBy pattern names sound peers x.1 before now
    pub answered : (ends : ℕ → End) → CanJoin x.0.peer (pattern ends before) → x.0.answer ≡ attach_answer x.0.peer (pattern ends before)

  -- these did, one after the other
  abbrev pub HaveCome : {N : Type 0} → List (Joining N × ℕ) → (first now : C) → Type 0
  HaveCome [] first now = IsAlike pattern first now
  HaveCome (x ∷ xs) first now = (before : C) × CameAs x before now × HaveCome xs first before

  -- what was done to the ends is what the holder was told, and did this to the state of the kind: those that joined were attached, with its answers, and then those that went were detached
  pub record KindWay {N I : Type 0} (w : Way N) (ps : List (Place N I)) (joins0 joins : List (Joining N)) (turns0 turns : List (EndId × EndState)) (first now : C) : Type 0 where
    pub joins_are : joins ≡ joins0 ++ oldest_first w.joined
    pub turns_are : turns ≡ turns0 ++ w.turns
    pub come : w.turns ≡ [] → HaveCome w.joined first now
    pub stand : AllStand ps w.turns w.joined
    pub goes : (ends : ℕ → End) → IsNaming ps ends → pattern ends now ≡ detach_all (outs_of w.turns) (attach_all (oldest_first w.joined) (pattern ends first))
    pub answered : (ends : ℕ → End) → IsNaming ps ends → CanJoinAll (oldest_first w.joined) (pattern ends first) → AreAnswered (oldest_first w.joined) (pattern ends first)

  -- while it is open still, it did so to a socket that was so before
  abbrev pub KindWayOf : {W N O I : Type 0} → (old new : SockCore C W N O I) → Type 0
  KindWayOf old new =
      new.is_open ≡ true
      → KindWay (way_in new.way.items) new.ends.places.items (standing_joins old.joins.items) (standing_joins new.joins.items) old.turns.items new.turns.items old.kind new.kind
