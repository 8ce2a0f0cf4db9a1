-- The steps on pipes, and what a list of steps says of each pipe: messages go in and come out whole and in order (zmq_msg_send(3), zmq_msg_recv(3)).
use Rattle.std.specs.Prelude.{◌≡◌, ◌<◌, ◌≤◌, ◌+◌, ◌⊎◌, ℕ, List, [], ◌∷◌, ◌++◌, Bool, true, false, not, length, Option, Some, None, slice_get, nat_eq, if◌then◌else◌}
use Rattle.std.specs.List.{filter_map, list_any}
use mathlib.Core.List.{IsPrefix}
use Rattle.zq_base.specs.Message.{Frames}
use Rattle.zq_base.specs.Ends.{PipeId, other_end}

-- one step of one call at one pipe: a message committed, a look that found the pipe full, one that found room and committed nothing, a message taken, a look that found it empty, a look that found the delimiter, a look that found a message and took none, the delimiter written
pub data PipeStep : Type 0 where
  Commit : (pipe : PipeId) → (message : Frames) → PipeStep
  FullLook : (pipe : PipeId) → PipeStep
  RoomLook : (pipe : PipeId) → PipeStep
  Take : (pipe : PipeId) → (message : Frames) → PipeStep
  EmptyLook : (pipe : PipeId) → PipeStep
  DelimiterLook : (pipe : PipeId) → PipeStep
  WaitingLook : (pipe : PipeId) → PipeStep
  Seal : (pipe : PipeId) → PipeStep

-- the pipe that is read at the end which writes this one
abbrev pub read_through : PipeId → PipeId
read_through p = other_end p

abbrev pub same_side : Bool → Bool → Bool
same_side true b = b
same_side false b = not b

-- whether two names are of one pipe
abbrev pub same_pipe : PipeId → PipeId → Bool
same_pipe p q = if nat_eq p.pair.0 q.pair.0 then same_side p.a q.a else false

-- the message that a step commits to the pipe
abbrev pub committed_by : PipeId → PipeStep → Option Frames
committed_by p (Commit q m) = if same_pipe p q then Some m else None
committed_by p (FullLook q) = None
committed_by p (RoomLook q) = None
committed_by p (Take q m) = None
committed_by p (EmptyLook q) = None
committed_by p (DelimiterLook q) = None
committed_by p (WaitingLook q) = None
committed_by p (Seal q) = None

-- the message that a step takes from the pipe
abbrev pub taken_by : PipeId → PipeStep → Option Frames
taken_by p (Commit q m) = None
taken_by p (FullLook q) = None
taken_by p (RoomLook q) = None
taken_by p (Take q m) = if same_pipe p q then Some m else None
taken_by p (EmptyLook q) = None
taken_by p (DelimiterLook q) = None
taken_by p (WaitingLook q) = None
taken_by p (Seal q) = None

-- whether a step writes the delimiter of the pipe
abbrev pub sealed_by : PipeId → PipeStep → Bool
sealed_by p (Commit q m) = false
sealed_by p (FullLook q) = false
sealed_by p (RoomLook q) = false
sealed_by p (Take q m) = false
sealed_by p (EmptyLook q) = false
sealed_by p (DelimiterLook q) = false
sealed_by p (WaitingLook q) = false
sealed_by p (Seal q) = same_pipe p q

-- what was committed to the pipe, in order
abbrev pub committed_to : PipeId → List PipeStep → List Frames
committed_to p steps = filter_map (committed_by p) steps

-- what was taken from the pipe, in order
abbrev pub taken_from : PipeId → List PipeStep → List Frames
taken_from p steps = filter_map (taken_by p) steps

-- whether the delimiter of the pipe was written
abbrev pub sealed_in : PipeId → List PipeStep → Bool
sealed_in p steps = list_any (sealed_by p) steps

-- the most messages that are ever committed to one pipe
abbrev pub most_commits : ℕ
most_commits = 4611686018427387902

-- After the steps past, at a pipe of this capacity, one message more can be committed. Behind a delimiter nothing is.
abbrev pub HasRoomAfter : ℕ → PipeId → List PipeStep → Type 0
HasRoomAfter capacity p past =
    (length (committed_to p past) < length (taken_from p past) + capacity)
    × (length (committed_to p past) < most_commits)
    × (sealed_in p past ≡ false)

-- Nothing more can be committed.
abbrev pub IsFullAfter : ℕ → PipeId → List PipeStep → Type 0
IsFullAfter capacity p past =
    (length (committed_to p past) ≡ length (taken_from p past) + capacity)
    ⊎ (length (committed_to p past) ≡ most_commits)

-- The step follows from the steps past: a look finds what they left, a commit found room, a take gives the oldest message left.
abbrev pub Follows : (PipeId → ℕ) → List PipeStep → PipeStep → Type 0
Follows capacity past (Commit p m) = HasRoomAfter (capacity p) p past
Follows capacity past (FullLook p) = IsFullAfter (capacity p) p past
Follows capacity past (RoomLook p) = HasRoomAfter (capacity p) p past
Follows capacity past (Take p m) =
    slice_get (committed_to p past) (length (taken_from p past)) ≡ Some m
Follows capacity past (EmptyLook p) =
    (length (committed_to p past) ≡ length (taken_from p past)) × (sealed_in p past ≡ false)
Follows capacity past (DelimiterLook p) =
    (length (committed_to p past) ≡ length (taken_from p past)) × (sealed_in p past ≡ true)
Follows capacity past (WaitingLook p) =
    length (taken_from p past) < length (committed_to p past)
Follows capacity past (Seal p) = sealed_in p past ≡ false

-- each of the steps that come after those past follows from all before it
abbrev pub AreExact : (PipeId → ℕ) → List PipeStep → List PipeStep → Type 0
AreExact capacity past [] = Unit {0}
AreExact capacity past (s ∷ ss) = Follows capacity past s × AreExact capacity (past ++ s ∷ []) ss

-- What remains of looks under threads: a full look at n commits has n at least the capacity and needs n less the capacity takes by the end; an empty look at n takes needs n commits by the end.
pub record LooksHold (capacity : PipeId → ℕ) (steps : List PipeStep) : Type 0 where
  pub full : (p : PipeId) (before after : List PipeStep) → steps ≡ before ++ FullLook p ∷ after →
      (capacity p ≤ length (committed_to p before))
      × (length (committed_to p before) ≤ length (taken_from p steps) + capacity p)
  pub empty : (p : PipeId) (before after : List PipeStep) → steps ≡ before ++ EmptyLook p ∷ after →
      length (taken_from p before) ≤ length (committed_to p steps)

-- No more is taken than was committed, and the k-th message taken is the k-th committed.
abbrev pub TakesInOrder : List PipeStep → Type 0
TakesInOrder steps = (p : PipeId) → IsPrefix (taken_from p steps) (committed_to p steps)
