-- Whether a session's turn, or a part of it, moved anything (own choice). Looks that met no message and no delimiter, and calls that stalled, move nothing.
use Rattle.std.specs.Prelude.{Bool, true, false, List}
use Rattle.std.specs.List.{list_any}
use Rattle.zq_outer.specs.declared.link.LinkGot.{LinkGot}
use Rattle.zq_outer.specs.declared.link.LinkGot.TheVariants as got
use Rattle.zq_outer.specs.declared.link.LinkPut.{LinkPut}
use Rattle.zq_outer.specs.declared.link.LinkPut.TheVariants as put
use Rattle.spec_pattern.specs.PipeStep.{PipeStep, Commit, FullLook, RoomLook, Take, EmptyLook, DelimiterLook, WaitingLook, Seal}
use Rattle.spec_link.specs.LinkAct.{HostAnswer, Linked, NotReady, Failed, WireAct, Dials, Accepts, Writes, Reads, Repeats, Pings, LinkAct, Wire, Step}
use Rattle.spec_link.specs.History.{SessionEvent, Given, Dialled, Acted, Closed, EndIs, Told, Tried, GaveUp, IsDue, Handed}

-- a call that stalled moved nothing
abbrev pub host_moves : HostAnswer → Bool
host_moves Linked = true
host_moves NotReady = false
host_moves Failed = true

abbrev pub put_moves : LinkPut → Bool
put_moves (put.Took n) = true
put_moves put.NotReady = false
put_moves put.Ended = true
put_moves put.Failed = true

abbrev pub got_moves : LinkGot → Bool
got_moves (got.Bytes n) = true
got_moves got.NotReady = false
got_moves got.Ended = true
got_moves got.Failed = true

abbrev pub wire_moves : WireAct → Bool
wire_moves (Dials answer) = host_moves answer
wire_moves (Accepts answer) = host_moves answer
wire_moves (Writes answer octets) = put_moves answer
wire_moves (Reads answer octets) = got_moves answer
wire_moves (Repeats topic) = true
wire_moves (Pings ttl) = true

-- nor did a look, but one that met the delimiter
abbrev pub step_moves : PipeStep → Bool
step_moves (Commit pipe message) = true
step_moves (FullLook pipe) = false
step_moves (RoomLook pipe) = false
step_moves (Take pipe message) = true
step_moves (EmptyLook pipe) = false
step_moves (DelimiterLook pipe) = true
step_moves (WaitingLook pipe) = false
step_moves (Seal pipe) = true

abbrev pub act_moves : LinkAct → Bool
act_moves (Wire act) = wire_moves act
act_moves (Step step) = step_moves step

abbrev pub moves : SessionEvent → Bool
moves Given = true
moves (Dialled now answer) = host_moves answer
moves (Acted act) = act_moves act
moves (Closed now why) = true
moves (EndIs state) = true
moves (Told now) = true
moves (Tried left) = true
moves GaveUp = true
moves (IsDue due) = true
moves (Handed due) = true

-- one of these events did
abbrev pub has_moved : List SessionEvent → Bool
has_moved events = list_any moves events
