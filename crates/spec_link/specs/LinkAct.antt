-- What a session or a listener does at its host, at one link and at the pipes of its end, one act after another (RFC 23, "Traffic"; the order is an own choice).
use Rattle.std.specs.Prelude.{◌≡◌, ℕ, ◌≤◌, List, [], ◌∷◌, length}
use Rattle.std.specs.List.{flat_map}
use Rattle.zq_base.specs.Message.{Frames}
use Rattle.zq_outer.specs.declared.link.LinkGot.{LinkGot}
use Rattle.zq_outer.specs.declared.link.LinkGot.TheVariants as got
use Rattle.zq_outer.specs.declared.link.LinkPut.{LinkPut}
use Rattle.zq_outer.specs.declared.link.LinkPut.TheVariants as put
use Rattle.spec_pattern.specs.PipeStep.{PipeStep, Commit, FullLook, RoomLook, Take, EmptyLook, DelimiterLook, WaitingLook, Seal}

-- ---- acts

-- what a host answered to a connect or an accept
pub data HostAnswer : Type 0 where
  Linked : HostAnswer
  NotReady : HostAnswer
  Failed : HostAnswer

-- one act on the wire: a connect or an accept with its answer, a write with its answer and the octets that the link took, a read with its answer and the octets that the link gave, a topic that is said again, or a PING that asks the peer for a word within so many tenths of a second, which no part of a turn says yet
pub data WireAct : Type 0 where
  Dials : HostAnswer → WireAct
  Accepts : HostAnswer → WireAct
  Writes : LinkPut → List ℕ → WireAct
  Reads : LinkGot → List ℕ → WireAct
  Repeats : Frames → WireAct
  Pings : (ttl : ℕ) → WireAct

-- one act of a session: on the wire, or a step at a pipe of its end
pub data LinkAct : Type 0 where
  Wire : WireAct → LinkAct
  Step : PipeStep → LinkAct

-- the octets are those of the answer: as many as it says, at least one, and of a read at most 8,192
abbrev pub FitsPut : LinkPut → List ℕ → Type 0
FitsPut (put.Took n) octets = (1 ≤ n) × (length octets ≡ n)
FitsPut put.NotReady octets = octets ≡ []
FitsPut put.Ended octets = octets ≡ []
FitsPut put.Failed octets = octets ≡ []

abbrev pub FitsGot : LinkGot → List ℕ → Type 0
FitsGot (got.Bytes n) octets = (1 ≤ n) × (n ≤ 8192) × (length octets ≡ n)
FitsGot got.NotReady octets = octets ≡ []
FitsGot got.Ended octets = octets ≡ []
FitsGot got.Failed octets = octets ≡ []

-- ---- what one act adds

-- the octets that the link took
abbrev pub said_on : WireAct → List ℕ
said_on (Dials answer) = []
said_on (Accepts answer) = []
said_on (Writes answer octets) = octets
said_on (Reads answer octets) = []
said_on (Repeats topic) = []
said_on (Pings ttl) = []

-- the octets that the link gave
abbrev pub heard_on : WireAct → List ℕ
heard_on (Dials answer) = []
heard_on (Accepts answer) = []
heard_on (Writes answer octets) = []
heard_on (Reads answer octets) = octets
heard_on (Repeats topic) = []
heard_on (Pings ttl) = []

-- the message that is said again
abbrev pub repeated_on : WireAct → List Frames
repeated_on (Dials answer) = []
repeated_on (Accepts answer) = []
repeated_on (Writes answer octets) = []
repeated_on (Reads answer octets) = []
repeated_on (Repeats topic) = topic ∷ []
repeated_on (Pings ttl) = []

-- the message that is taken from a pipe
abbrev pub taken_at : PipeStep → List Frames
taken_at (Commit pipe message) = []
taken_at (FullLook pipe) = []
taken_at (RoomLook pipe) = []
taken_at (Take pipe message) = message ∷ []
taken_at (EmptyLook pipe) = []
taken_at (DelimiterLook pipe) = []
taken_at (WaitingLook pipe) = []
taken_at (Seal pipe) = []

-- the message that is put into a pipe
abbrev pub put_at : PipeStep → List Frames
put_at (Commit pipe message) = message ∷ []
put_at (FullLook pipe) = []
put_at (RoomLook pipe) = []
put_at (Take pipe message) = []
put_at (EmptyLook pipe) = []
put_at (DelimiterLook pipe) = []
put_at (WaitingLook pipe) = []
put_at (Seal pipe) = []

-- the same of an act of a session; a message is offered to the link where it is taken or said again
abbrev pub said_by : LinkAct → List ℕ
said_by (Wire act) = said_on act
said_by (Step step) = []

abbrev pub heard_by : LinkAct → List ℕ
heard_by (Wire act) = heard_on act
heard_by (Step step) = []

abbrev pub offered_by : LinkAct → List Frames
offered_by (Wire act) = repeated_on act
offered_by (Step step) = taken_at step

abbrev pub repeated_by : LinkAct → List Frames
repeated_by (Wire act) = repeated_on act
repeated_by (Step step) = []

abbrev pub taken_by : LinkAct → List Frames
taken_by (Wire act) = []
taken_by (Step step) = taken_at step

abbrev pub put_by : LinkAct → List Frames
put_by (Wire act) = []
put_by (Step step) = put_at step

-- ---- what the acts at one link add up to

-- all octets that the link took, and all that it gave
abbrev pub said_of : List LinkAct → List ℕ
said_of acts = flat_map said_by acts

abbrev pub heard_of : List LinkAct → List ℕ
heard_of acts = flat_map heard_by acts

-- all messages that were to be said, those of them that were said again and those that were taken from the pipe, and all that were put into the other pipe
abbrev pub offered_of : List LinkAct → List Frames
offered_of acts = flat_map offered_by acts

abbrev pub repeated_of : List LinkAct → List Frames
repeated_of acts = flat_map repeated_by acts

abbrev pub taken_of : List LinkAct → List Frames
taken_of acts = flat_map taken_by acts

abbrev pub put_of : List LinkAct → List Frames
put_of acts = flat_map put_by acts
