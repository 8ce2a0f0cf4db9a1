-- What happens to a listener, and its turn (own choice).
use Rattle.std.specs.Prelude.{◌≡◌, ◌+◌, Bool, true, false, List, [], ◌∷◌, Option, Some, None}
use Rattle.std.specs.List.{fold}
use Rattle.spec_link.specs.declared.row.ListenerRow.{ListenerRow}
use Rattle.spec_link.specs.LinkAct.{HostAnswer, Linked, NotReady, Failed}

-- what happens, in order: its listen went or failed; it accepted, with the host's answer; the session of a link that it accepted was made; it asked to end
pub data ListenerEvent : Type 0 where
  Listened : (good : Bool) → ListenerEvent
  Accepted : HostAnswer → ListenerEvent
  Counted : ListenerEvent
  Asked : ListenerEvent

-- how a listener stands: how its listen went, whether it asked to end, and its row
pub record ListenerStanding : Type 0 where
  pub listens : Option Bool
  pub asked : Bool
  pub row : ListenerRow

-- before its listen
abbrev pub unheard : ListenerStanding
unheard = record { listens = None; asked = false; row = record { accepted = 0; failed = false } }

-- something of it failed
abbrev pub with_failure : ListenerStanding → ListenerStanding
with_failure s = record s { row = record s.row { failed = true } }

-- after an accept; a failed one is noted, and the listener goes on
abbrev pub after_accept : HostAnswer → ListenerStanding → ListenerStanding
after_accept Linked s = s
after_accept NotReady s = s
after_accept Failed s = with_failure s

-- after one event, and after all so far
abbrev pub after_event : ListenerStanding → ListenerEvent → ListenerStanding
after_event s (Listened true) = record s { listens = Some true }
after_event s (Listened false) = with_failure (record s { listens = Some false })
after_event s (Accepted answer) = after_accept answer s
after_event s Counted = record s { row = record s.row { accepted = s.row.accepted + 1 } }
after_event s Asked = record s { asked = true }

abbrev pub listener_after : List ListenerEvent → ListenerStanding
listener_after events = fold after_event unheard events

-- it may accept: it listens, and there is room for one session more
pub record MayAccept (s : ListenerStanding) (room : Bool) : Type 0 where
  pub listens : s.listens ≡ Some true
  pub has_room : room ≡ true

-- an accept with its answer, or none
abbrev pub accept_events : Option HostAnswer → List ListenerEvent
accept_events None = []
accept_events (Some answer) = Accepted answer ∷ []

-- a turn: one accept exactly where it may accept
abbrev pub IsListenerTurn : ListenerStanding → (room : Bool) → Option HostAnswer → Type 0
IsListenerTurn s room None = MayAccept s room → ⊥
IsListenerTurn s room (Some answer) = MayAccept s room

-- it is to ask to end: its listen failed, and it didn't ask before
pub record MustAsk (s : ListenerStanding) : Type 0 where
  pub failed : s.listens ≡ Some false
  pub once : s.asked ≡ false
