-- What happens to a session, and how it stands after that (own choice).
use Rattle.std.specs.Prelude.{ℕ, zero, suc, ◌+◌, ◌-◌, ◌^◌, min, Bool, true, false, List, [], ◌∷◌, ◌++◌, Option, Some, None, option_map}
use Rattle.std.specs.List.{fold}
use Rattle.zq_base.specs.declared.ids.EndId.{EndId}
use Rattle.zq_base.specs.declared.ids.ObjId.{ObjId}
use Rattle.zq_base.specs.declared.options.EngineOpts.{EngineOpts}
use Rattle.spec_control.specs.declared.end.EndState.{EndState}
use Rattle.spec_link.specs.declared.due.Due.{Due}
use Rattle.spec_link.specs.declared.row.LinkEnd.{LinkEnd}
use Rattle.spec_link.specs.LinkAct.{HostAnswer, Linked, NotReady, Failed, LinkAct}
use Rattle.spec_link.specs.Rows.{ClosedLink}

-- what a session is made with: its number, its end, its engine's options, whether it dials, the interval between two dials, and how long it lingers once it was told to end (none: for ever); both in milliseconds
pub record Basis : Type 0 where
  pub object : ObjId
  pub end : EndId
  pub opts : EngineOpts
  pub dials : Bool
  pub interval : ℕ
  pub linger : Option ℕ

-- what happens, in order: an accept gave the session its link; it dialled; an act at its link or its end; its link was over and let go; its end came into this state; its Term was processed; the plane tried to end it, and found output left or none; it gave up; something became due to the plane; and that was handed to the plane
pub data SessionEvent : Type 0 where
  Given : SessionEvent
  Dialled : (now : ℕ) → HostAnswer → SessionEvent
  Acted : LinkAct → SessionEvent
  Closed : (now : ℕ) → LinkEnd → SessionEvent
  EndIs : EndState → SessionEvent
  Told : (now : ℕ) → SessionEvent
  Tried : (left : Bool) → SessionEvent
  GaveUp : SessionEvent
  IsDue : Due → SessionEvent
  Handed : Due → SessionEvent

-- how a session stands: the acts at its link where it has one, its links that are over, the moment from which a dial is due, the moment of its Term, the state of its end once it is made, whether the plane's last try found output, whether it gave up, all that became due, and all of it that was handed to the plane
pub record Standing : Type 0 where
  pub link : Option (List LinkAct)
  pub closed : List ClosedLink
  pub dial_at : ℕ
  pub told : Option ℕ
  pub state : Option EndState
  pub waits : Bool
  pub gave_up : Bool
  pub dues : List Due
  pub handed : List Due

abbrev pub unborn : Standing
unborn = record { link = None; closed = []; dial_at = 0; told = None; state = None; waits = false; gave_up = false; dues = []; handed = [] }

-- the moment so many milliseconds later, at most the greatest reading
abbrev pub later : ℕ → ℕ → ℕ
later now n = min (now + n) (2 ^ 64 - 1)

-- the moment from which a dial is due, after one that was made now
abbrev pub dial_at_after : (interval now : ℕ) → HostAnswer → (dial_at : ℕ) → ℕ
dial_at_after interval now Linked dial_at = dial_at
dial_at_after interval now NotReady dial_at = dial_at
dial_at_after interval now Failed dial_at = later now interval

-- the link after a dial
abbrev pub link_after : HostAnswer → Option (List LinkAct) → Option (List LinkAct)
link_after Linked link = Some []
link_after NotReady link = link
link_after Failed link = link

-- after a link that was over
abbrev pub after_close : ℕ → ℕ → LinkEnd → Option (List LinkAct) → Standing → Standing
after_close interval now why None s = s
after_close interval now why (Some acts) s = record s {
  link = None;
  closed = s.closed ++ record { acts = acts; why = why } ∷ [];
  dial_at = later now interval;
}

-- it doesn't linger at all: told to end, it has given up
abbrev pub gives_up_at_once : Option ℕ → Bool
gives_up_at_once None = false
gives_up_at_once (Some zero) = true
gives_up_at_once (Some (suc n)) = false

-- after its Term
abbrev pub after_term : (now : ℕ) (at_once : Bool) → Standing → Standing
after_term now true s = record s { told = Some now; gave_up = true }
after_term now false s = record s { told = Some now }

-- after one event
abbrev pub after : Basis → Standing → SessionEvent → Standing
after b s Given = record s { link = Some [] }
after b s (Dialled now answer) = record s { link = link_after answer s.link; dial_at = dial_at_after b.interval now answer s.dial_at }
after b s (Acted act) = record s { link = option_map (λ acts. acts ++ act ∷ []) s.link }
after b s (Closed now why) = after_close b.interval now why s.link s
after b s (EndIs state) = record s { state = Some state }
after b s (Told now) = after_term now (gives_up_at_once b.linger) s
after b s (Tried left) = record s { waits = left }
after b s GaveUp = record s { gave_up = true }
after b s (IsDue due) = record s { dues = s.dues ++ due ∷ [] }
after b s (Handed due) = record s { handed = s.handed ++ due ∷ [] }

-- after some more, and after all so far
abbrev pub after_all : Basis → Standing → List SessionEvent → Standing
after_all b s events = fold (after b) s events

abbrev pub standing : Basis → List SessionEvent → Standing
standing b history = after_all b unborn history
