-- What a holder of ends has, and what each of its calls does to it (own choice, after libzmq's `pipe_t` and `socket_base_t`).
use Rattle.std.specs.Prelude.{◌≡◌, ◌≢◌, ◌≤◌, ℕ, Bool, true, false, not, List, [], ◌∷◌, ◌++◌, Option, Some, None, if◌then◌else◌, filter, is_some, unwrap_or, All, map}
use Rattle.std.specs.List.{list_any}
use Rattle.zq_base.specs.declared.ids.EndId.{EndId}
use Rattle.zq_base.specs.declared.kind.Kind.{Kind}
use Rattle.zq_base.specs.declared.kind.Kind.TheVariants.{Router, Pair}
use Rattle.zq_base.specs.declared.attached.Attached.{Attached}
use Rattle.zq_base.specs.declared.attached.Attached.TheVariants.{Yes, BadId, Second}
use Rattle.spec_pattern.specs.Pipe.{max_capacity}
use Rattle.spec_control.specs.declared.entry.Joining.{Joining}
use Rattle.spec_control.specs.declared.end.EndState.{EndState}
use Rattle.spec_control.specs.declared.end.EndState.TheVariants.{Active, DelimiterGot, WaitDelimiter, AckSent, AskedOnce, AskedTwice, Gone}
use Rattle.spec_control.specs.Control.{is_end}
use Rattle.spec_control.specs.Held.{Held}
use Rattle.desk.specs.declared.halves.Halves.{Halves}
use Rattle.desk.specs.declared.given.Given.{Given}
use Rattle.desk.specs.declared.notice.Notice.{Notice}

-- what a holder has
pub record Holding (N : Type 0) : Type 0 where
  -- the objects that it is the holder of
  pub holds : ℕ → Bool
  -- an object's ends, in the order of their attachment
  pub ends : ℕ → List (Held N)
  -- the writing half of an end is with the holder still
  pub writes : EndId → Bool
  -- the reading half of an end has met the other end's delimiter
  pub at_delimiter : EndId → Bool
  -- the kind that ends of an object join, if it is a socket that was not closed
  pub kind : ℕ → Option Kind
  -- a session that has output left to write within its linger
  pub output_left : ℕ → Bool
  -- how far an end is, as the holder was told last
  pub state : EndId → EndState
  -- the changes of state that it was told so far, in order
  pub turns : List (EndId × EndState)
  -- the ends whose pipes it was to seal so far, in order
  pub sealed : List EndId
  -- the ends that joined so far, but those that were taken back, in order, each with its kind's answer
  pub joined : List (Joining N)
  -- what it was told of its objects so far, in order
  pub heard : List Notice

-- a pipe's capacity
pub record IsCapacity (capacity : ℕ) : Type 0 where
  pub some : 1 ≤ capacity
  pub few : capacity ≤ max_capacity

-- a ROUTER alone refuses a peer by its name, and a PAIR a second one (zmq_socket(3))
abbrev pub MayRefuse : Option Kind → Attached → Type 0
MayRefuse kind Yes = Unit {0}
MayRefuse kind BadId = kind ≡ Some Router
MayRefuse kind Second = kind ≡ Some Pair

-- the two are one state
abbrev pub is_state : (s t : EndState) → Bool
is_state Active Active = true
is_state DelimiterGot DelimiterGot = true
is_state WaitDelimiter WaitDelimiter = true
is_state AckSent AckSent = true
is_state AskedOnce AskedOnce = true
is_state AskedTwice AskedTwice = true
is_state Gone Gone = true
is_state s t = false

module _ {N : Type 0} where
  -- an end is among these
  abbrev pub has_end : EndId → List (Held N) → Bool
  has_end e hs = list_any (λ h. is_end e h.end) hs

  abbrev pub without_end : EndId → List (Held N) → List (Held N)
  without_end e hs = filter (λ h. not (is_end e h.end)) hs

  -- the names of the pipe that an end writes and of the one that it reads
  abbrev pub written_in : List (Held N) → EndId → Option N
  written_in [] e = None
  written_in (h ∷ hs) e = if is_end e h.end then Some h.written else written_in hs e

  abbrev pub read_in : List (Held N) → EndId → Option N
  read_in [] e = None
  read_in (h ∷ hs) e = if is_end e h.end then Some h.read else read_in hs e

  -- the writing halves of ends but one are where they were
  abbrev pub WritesButAt : EndId → Bool → (old new : Holding N) → Type 0
  WritesButAt e now old new = (d : EndId) → new.writes d ≡ (if is_end d e then now else old.writes d)

  abbrev pub WritesAsBefore : (old new : Holding N) → Type 0
  WritesAsBefore old new = (d : EndId) → new.writes d ≡ old.writes d

  -- none of its objects has this end
  abbrev pub HasNowhere : EndId → Holding N → Type 0
  HasNowhere e h = (i : ℕ) → h.holds i ≡ true → has_end e (h.ends i) ≡ false

  -- how far each end is that is had stays, nothing more was told or sealed, and no end joined
  pub record KeepsTurns (old new : Holding N) : Type 0 where
    pub states : (i : ℕ) (d : EndId) → has_end d (new.ends i) ≡ true → new.state d ≡ old.state d
    pub turns : new.turns ≡ old.turns
    pub sealed : new.sealed ≡ old.sealed
    pub joined : new.joined ≡ old.joined

  -- ends that came begin in these states, and else how far each is stays; nothing more was told or sealed
  pub record Begins (began : EndId → Option EndState) (old new : Holding N) : Type 0 where
    pub states : (i : ℕ) (d : EndId) → has_end d (new.ends i) ≡ true → new.state d ≡ unwrap_or (began d) (old.state d)
    pub turns : new.turns ≡ old.turns
    pub sealed : new.sealed ≡ old.sealed

  -- an end that joined is Active
  abbrev pub BeginsActive : EndId → (old new : Holding N) → Type 0
  BeginsActive e old new = Begins (λ d. if is_end d e then Some Active else None) old new

  -- no end came
  abbrev pub BeginsNone : (old new : Holding N) → Type 0
  BeginsNone old new = Begins (λ d. None) old new

  -- these ends joined, behind those before
  abbrev pub JoinsBy : List (Joining N) → (old new : Holding N) → Type 0
  JoinsBy js old new = new.joined ≡ old.joined ++ js

  -- the end that joined last is taken back
  abbrev pub TakesBack : (old new : Holding N) → Type 0
  TakesBack old new = (before : List (Joining N)) (last : Joining N) → old.joined ≡ before ++ last ∷ [] → new.joined ≡ before

  -- nothing was told of an object, or this, behind what was before
  abbrev pub HearsNone : (old new : Holding N) → Type 0
  HearsNone old new = new.heard ≡ old.heard

  abbrev pub HearsMore : List Notice → (old new : Holding N) → Type 0
  HearsMore ns old new = new.heard ≡ old.heard ++ ns

  -- an end is told that it is in this state now, which is a change unless it was in it
  pub record TurnsTo (e : EndId) (state : EndState) (old new : Holding N) : Type 0 where
    pub states : (i : ℕ) (d : EndId) → has_end d (new.ends i) ≡ true → new.state d ≡ (if is_end d e then state else old.state d)
    pub turns : new.turns ≡ old.turns ++ (if is_state (old.state e) state then [] else (e, state) ∷ [])
    pub sealed : new.sealed ≡ old.sealed
    pub joined : new.joined ≡ old.joined

  -- the pipe that an end writes was to be sealed
  pub record Seals (e : EndId) (old new : Holding N) : Type 0 where
    pub states : (i : ℕ) (d : EndId) → has_end d (new.ends i) ≡ true → new.state d ≡ old.state d
    pub turns : new.turns ≡ old.turns
    pub sealed : new.sealed ≡ old.sealed ++ e ∷ []
    pub joined : new.joined ≡ old.joined

  -- an object's ends are these now, and else all is as before; an end that was at its delimiter is there while it is held
  pub record HoldsNow (o : ℕ) (hs : List (Held N)) (old new : Holding N) : Type 0 where
    pub ends : new.ends o ≡ hs
    pub others : (i : ℕ) → i ≢ o → new.ends i ≡ old.ends i
    pub objects : (i : ℕ) → new.holds i ≡ old.holds i
    pub kinds : (i : ℕ) → new.kind i ≡ old.kind i
    pub output : (i : ℕ) → new.output_left i ≡ old.output_left i
    pub delimiters : (i : ℕ) (e : EndId) → has_end e (new.ends i) ≡ true → old.at_delimiter e ≡ true → new.at_delimiter e ≡ true

  -- all is as before
  pub record Stays (o : ℕ) (old new : Holding N) : Type 0 where
    pub now : HoldsNow o (old.ends o) old new
    pub writers : WritesAsBefore old new

  -- an end joined an object
  pub record Joined (o : ℕ) (h : Held N) (old new : Holding N) : Type 0 where
    pub now : HoldsNow o (old.ends o ++ h ∷ []) old new
    pub writers : WritesButAt h.end true old new

  -- an end left it, whose writing half is not there
  pub record Left (o : ℕ) (e : EndId) (old new : Holding N) : Type 0 where
    pub now : HoldsNow o (without_end e (old.ends o)) old new
    pub writers : WritesButAt e false old new

  -- the writing half of an end was given away
  pub record Yielded (o : ℕ) (e : EndId) (old new : Holding N) : Type 0 where
    pub now : HoldsNow o (old.ends o) old new
    pub writers : WritesButAt e false old new

  -- all ends are as before, and what is said of other objects' output; of this one it may change
  pub record IsTold (o : ℕ) (old new : Holding N) : Type 0 where
    pub ends : (i : ℕ) → new.ends i ≡ old.ends i
    pub writes : WritesAsBefore old new
    pub kinds : (i : ℕ) → new.kind i ≡ old.kind i
    pub objects : (i : ℕ) → i ≢ o → new.holds i ≡ old.holds i
    pub output : (i : ℕ) → i ≢ o → new.output_left i ≡ old.output_left i
    pub delimiters : (e : EndId) → old.at_delimiter e ≡ true → new.at_delimiter e ≡ true
    pub turns : KeepsTurns old new

  -- an object is taken in, with these ends
  pub record IsPlugged (o : ℕ) (hs : List (Held N)) (old new : Holding N) : Type 0 where
    pub here : new.holds o ≡ true
    pub ends : new.ends o ≡ hs
    pub no_kind : new.kind o ≡ None
    pub others : (i : ℕ) → i ≢ o → (new.holds i ≡ old.holds i) × ((new.ends i ≡ old.ends i) × (new.kind i ≡ old.kind i))
    pub output : (i : ℕ) → i ≢ o → new.output_left i ≡ old.output_left i
    pub delimiters : (i : ℕ) (e : EndId) → has_end e (old.ends i) ≡ true → old.at_delimiter e ≡ true → new.at_delimiter e ≡ true

  -- an object's ends were all given away, with the object; those of other objects are as before
  pub record HasGiven (o : ℕ) (old new : Holding N) : Type 0 where
    pub none : new.ends o ≡ []
    pub gone : new.holds o ≡ false
    pub others : (i : ℕ) → i ≢ o → (new.holds i ≡ old.holds i) × ((new.ends i ≡ old.ends i) × (new.kind i ≡ old.kind i))
    pub writers : (i : ℕ) (e : EndId) → has_end e (new.ends i) ≡ true → new.writes e ≡ old.writes e
    pub delimiters : (i : ℕ) (e : EndId) → has_end e (new.ends i) ≡ true → old.at_delimiter e ≡ true → new.at_delimiter e ≡ true
    pub output : (i : ℕ) → i ≢ o → new.output_left i ≡ old.output_left i

  -- no end of its objects that has its writing half still writes this pipe, wherever names tell pipes apart
  abbrev pub NoneWrites : (exact : Bool) → (name : N) → Holding N → Type 0
  NoneWrites exact name h = exact ≡ true → (i : ℕ) → h.holds i ≡ true → All (λ x. h.writes x.end ≡ true → x.written ≢ name) (h.ends i)

  -- the last of these ends is this one
  pub record IsLast (e : EndId) (hs : List (Held N)) : Type 0 where
    pub before : List (Held N)
    pub last : Held N
    pub are : hs ≡ before ++ last ∷ []
    pub end : is_end e last.end ≡ true

-- a session's end is Active
abbrev pub states_optional : {O I : Type 0} → Option (EndId × Halves O I) → EndId → Option EndState
states_optional None d = None
states_optional (Some x) d = if is_end d x.0 then Some Active else None

-- and has its writing half
abbrev pub writes_optional : {O I : Type 0} → Option (EndId × Halves O I) → EndId → (was : Bool) → Bool
writes_optional None d was = was
writes_optional (Some x) d was = if is_end d x.0 then true else was

module _ {N O I : Type 0} where
  -- of the ends that a closed socket gives, the holder that takes them says which have met their delimiters
  abbrev pub AreAtDelimiter : (EndId → Bool) → List (Given N O I) → Type 0
  AreAtDelimiter at gs = All (λ g. g.met ≡ true → at g.end ≡ true) gs

  -- it is said of each that has
  abbrev pub AllTold : (EndId → Bool) → List (Given N O I) → Type 0
  AllTold at gs = All (λ g. g.met ≡ at g.end) gs

  -- how far each is that has come
  abbrev pub states_given : List (Given N O I) → EndId → Option EndState
  states_given [] d = None
  states_given (g ∷ gs) d = if is_end d g.end then Some g.state else states_given gs d

  -- it is said of each how far it is
  abbrev pub AllStated : (EndId → EndState) → List (Given N O I) → Type 0
  AllStated state gs = All (λ g. g.state ≡ state g.end) gs

  -- of each whose pipe has its delimiter, the holder was told to seal it
  abbrev pub AllSealed : List EndId → List (Given N O I) → Type 0
  AllSealed told gs = All (λ g. g.sealed ≡ true → list_any (is_end g.end) told ≡ true) gs

  -- each comes with its writing half, where the holder has it still
  abbrev pub AllWriting : (EndId → Bool) → List (Given N O I) → Type 0
  AllWriting writes gs = All (λ g. is_some g.out ≡ writes g.end) gs

  -- the writing half of an end came with these, if it is one of them
  abbrev pub writes_in : List (Given N O I) → EndId → (was : Bool) → Bool
  writes_in [] e was = was
  writes_in (g ∷ gs) e was = if is_end e g.end then is_some g.out else writes_in gs e was

module _ {N O I : Type 0} (out_name : O → N) (in_name : I → N) where
  -- an end with these halves
  abbrev pub held_with : EndId → Halves O I → Held N
  held_with e halves = record { end = e; written = out_name halves.out; read = in_name halves.input }

  -- an end that joins with these halves, whose peer has this identity, and what its kind answers
  abbrev pub joining_with : EndId → (peer : List ℕ) → Halves O I → Attached → Joining N
  joining_with e peer halves answer = record { end = e; peer = peer; written = out_name halves.out; read = in_name halves.input; answer = answer; met = false }

  -- of the two halves of each of two pipes, each end has one
  pub record AreCrossed (mine other : Halves O I) : Type 0 where
    pub there : in_name other.input ≡ out_name mine.out
    pub back : in_name mine.input ≡ out_name other.out

  -- an end that a closed socket gives to the reaper; its writing half may be yielded
  abbrev pub held_given : Given N O I → Held N
  held_given g = record { end = g.end; written = g.written; read = in_name g.input }

  abbrev pub held_optional : Option (EndId × Halves O I) → List (Held N)
  held_optional None = []
  held_optional (Some x) = held_with x.0 x.1 ∷ []

  -- a session's end joins with no peer told, and no kind refuses it
  abbrev pub joins_optional : Option (EndId × Halves O I) → List (Joining N)
  joins_optional None = []
  joins_optional (Some x) = joining_with x.0 [] x.1 Yes ∷ []

  -- the list of these ends as the reaper takes them over: no peer is told, no kind refuses
  abbrev pub given_as : Given N O I → Joining N
  given_as g = record { end = g.end; peer = []; written = g.written; read = in_name g.input; answer = Yes; met = g.met }

  abbrev pub AreGivenAs : List (Given N O I) → List (Joining N) → Type 0
  AreGivenAs gs js = js ≡ map given_as gs
