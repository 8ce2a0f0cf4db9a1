-- What the answer of a call on a half tells, and the steps that it stands for (zmq_msg_send(3), zmq_msg_recv(3)).
use Rattle.std.specs.Prelude.{◌≡◌, ℕ, zero, suc, ◌<◌, ◌≤◌, ◌++◌, List, [], ◌∷◌, length, take, drop, Bool, true, false}
use mathlib.Core.List.{IsPrefix}
use Rattle.zq_base.specs.Message.{Frames}
use Rattle.zq_base.specs.Ends.{PipeId}
use Rattle.spec_pattern.specs.PipeStep.{PipeStep, Commit, FullLook, RoomLook, Take, EmptyLook, DelimiterLook, WaitingLook}
use Rattle.spec_pattern.specs.Pipe.{Pipe, IsCommittable, HasNoRoom, StandsFull, StandsEmpty, StandsAtDelimiter}
use Rattle.spec_pattern.specs.Half.{Writing, Reading, without_parts, Commits, CommitsMany, HasRoom, IsFull, Takes, SeesOne, IsEmpty, IsAtDelimiter}
use Rattle.msg_pipe.specs.declared.pipes.PutIn.{PutIn}
use Rattle.msg_pipe.specs.declared.pipes.PutIn.TheVariants as put
use Rattle.msg_pipe.specs.declared.pipes.Committed.{Committed}
use Rattle.msg_pipe.specs.declared.pipes.Committed.TheVariants as commit
use Rattle.msg_pipe.specs.declared.pipes.Taken.{Taken}
use Rattle.msg_pipe.specs.declared.pipes.Front.{Front}
use Rattle.msg_pipe.specs.declared.pipes.Front.TheVariants as front
use Rattle.msg_pipe.specs.declared.pipes.Taken.TheVariants.{Item, Empty, Delimiter}

-- the message is committed, or the pipe was found full and it comes back
abbrev pub Puts : Writing → Frames → PutIn → Writing → Type 0
Puts v m put.Ok w = Commits v m w
Puts v m (put.Full back) w = (back ≡ m) × IsFull v w

-- so many of these messages, from the first, are committed, and the rest stays; where some do, there was no room for more
pub record PutsSome (v : Writing) (ms : List Frames) (n : ℕ) (rest : List Frames) (w : Writing) : Type 0 where
  pub some : n ≤ length ms
  pub commits : CommitsMany v (take n ms) w
  pub rest_is : rest ≡ drop n ms
  pub full : n < length ms → HasNoRoom (length w.committed) w.freed w.capacity

-- of no message, nothing; of others as many as there is room for, or none where the pipe was found full
abbrev pub PutsMany : Writing → List Frames → ℕ → List Frames → Writing → Type 0
PutsMany v [] n rest w = (n ≡ 0) × (rest ≡ []) × (w ≡ v)
PutsMany v (m ∷ ms) zero rest w = (rest ≡ m ∷ ms) × IsFull v w
PutsMany v (m ∷ ms) (suc n) rest w = PutsSome v (m ∷ ms) (suc n) rest w

-- there is room for one message more, or the pipe was found full
abbrev pub SeesRoom : Writing → Bool → Writing → Type 0
SeesRoom v true w = HasRoom v w
SeesRoom v false w = IsFull v w

-- the message of the parts is committed and they are forgotten, or the pipe was found full and they stay
abbrev pub CommitsParts : Writing → Committed → Writing → Type 0
CommitsParts v commit.Ok w = Commits (without_parts v) v.parts w
CommitsParts v commit.Full w = IsFull v w

-- the oldest message left is taken, or there is none, or the delimiter stands there
abbrev pub Finds : Reading → Taken → Reading → Type 0
Finds v (Item m) w = Takes v m w
Finds v Empty w = IsEmpty v w
Finds v Delimiter w = IsAtDelimiter v w

-- the front: a message waits, or there is none, or the delimiter stands there
abbrev pub FrontFinds : Reading → Front → Reading → Type 0
FrontFinds v front.Message w = SeesOne v w
FrontFinds v front.Empty w = IsEmpty v w
FrontFinds v front.Delimiter w = IsAtDelimiter v w

-- the step of a look at the front of the pipe
abbrev pub front_step : PipeId → Front → PipeStep
front_step p front.Message = WaitingLook p
front_step p front.Empty = EmptyLook p
front_step p front.Delimiter = DelimiterLook p

-- what stood at the front at a take
abbrev pub front_of : Taken → Front
front_of (Item m) = front.Message
front_of Empty = front.Empty
front_of Delimiter = front.Delimiter

-- what stands where no message waits: the delimiter, or nothing yet
abbrev pub end_of : Bool → Front
end_of true = front.Delimiter
end_of false = front.Empty

-- the step of a put at the pipe
abbrev pub put_step : PipeId → Frames → PutIn → PipeStep
put_step p m put.Ok = Commit p m
put_step p m (put.Full back) = FullLook p

-- the step of a look for room at the pipe
abbrev pub room_step : PipeId → Bool → PipeStep
room_step p true = RoomLook p
room_step p false = FullLook p

-- the step of a take at the pipe
abbrev pub take_step : PipeId → Taken → PipeStep
take_step p (Item m) = Take p m
take_step p Empty = EmptyLook p
take_step p Delimiter = DelimiterLook p

-- a message that comes back is the one that was given
abbrev pub HandsBack : Frames → PutIn → Type 0
HandsBack m put.Ok = Unit {0}
HandsBack m (put.Full back) = back ≡ m

-- a message that is taken fits a pipe
abbrev pub TakesWhole : Taken → Type 0
TakesWhole (Item m) = IsCommittable m
TakesWhole Empty = Unit {0}
TakesWhole Delimiter = Unit {0}

-- what an exact look at the front saw: all that was committed, and whether the delimiter stands behind it
pub record SeesAll (v : Writing) (found : Front) (w : Reading) : Type 0 where
  pub seen : w.seen ≡ v.committed
  pub unsealed : found ≡ front.Empty → v.sealed ≡ false
  pub sealed : found ≡ front.Delimiter → v.sealed ≡ true

-- how the pipe stood at a put that answered so
abbrev pub PutFinds : Pipe → PutIn → Type 0
PutFinds p put.Ok = StandsFull p → ⊥
PutFinds p (put.Full back) = StandsFull p

-- how it stood at a look for room that answered so
abbrev pub RoomFinds : Pipe → Bool → Type 0
RoomFinds p true = StandsFull p → ⊥
RoomFinds p false = StandsFull p

-- how the pipe stood at a commit that answered so
abbrev pub CommitFinds : Pipe → Committed → Type 0
CommitFinds p commit.Ok = StandsFull p → ⊥
CommitFinds p commit.Full = StandsFull p

-- how the pipe stood at a take that answered so
abbrev pub TakeFinds : Pipe → Taken → Type 0
TakeFinds p (Item m) = IsPrefix (p.taken ++ m ∷ []) p.committed
TakeFinds p Empty = StandsEmpty p
TakeFinds p Delimiter = StandsAtDelimiter p
