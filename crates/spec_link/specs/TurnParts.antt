-- A session's turn and its parts, which a run by events makes one by one (own choice).
use Rattle.std.specs.Prelude.{◌≡◌, ℕ, ◌⊎◌, true, false, List, [], ◌++◌, Option, Some, None, map}
use Rattle.spec_control.specs.declared.end.EndState.TheVariants.{WaitDelimiter, Gone}
use Rattle.spec_control.specs.declared.end.Reason.TheVariants.{Linger}
use Rattle.spec_control.specs.declared.request.Req.TheVariants.{AskEnd, AskOver, OutputOver}
use Rattle.spec_link.specs.declared.due.Due.TheVariants.{Request}
use Rattle.spec_link.specs.declared.row.LinkEnd.{LinkEnd}
use Rattle.spec_link.specs.LinkAct.{LinkAct}
use Rattle.spec_link.specs.History.{Basis, SessionEvent, Acted, Standing, after_all}
use Rattle.spec_link.specs.Turn.{IsTold, LingerIsOver, HasNoOutput, Exactly, DueOnce, GivesUp, DelimiterIsDue, IsUnlinkedTurn, IsEnded, IsEndedBy, IsRefused, IsRefusedBy, WritesAt, ReadsAt, ClosesLink, ShakenIsDue}

-- ---- what begins a part

-- it gives up where its linger is over; one that gave up before still asks its end, once, where that waits for the delimiter, as one does that gave up at its Term
abbrev pub GivesUpBy : Basis → Standing → ℕ → List SessionEvent → Type 0
GivesUpBy b s now events =
    ((s.gave_up ≡ false) × Exactly (LingerIsOver b.linger s.told now) (GivesUp b s) events)
    ⊎ ((s.gave_up ≡ true) × DueOnce s (s.state ≡ Some WaitDelimiter) (Request (AskEnd b.end Linger)) events)

-- First the session gives up where its linger is over; then its output is over, once, where it waited for it; then it asks to end where its end is gone.
pub record Begins (b : Basis) (s : Standing) (now : ℕ) (more : List SessionEvent) : Type 0 where
  pub gives : List SessionEvent
  pub output : List SessionEvent
  pub over : List SessionEvent
  pub all : more ≡ gives ++ (output ++ over)
  pub gives_up : GivesUpBy b s now gives
  pub output_is : DueOnce (after_all b s gives) (IsTold s × ((s.waits ≡ true) × HasNoOutput b (after_all b s gives))) (Request (OutputOver b.object)) output
  pub over_is : DueOnce (after_all b s (gives ++ output)) ((IsTold s → ⊥) × (s.state ≡ Some Gone)) (Request (AskOver b.object)) over

-- this, unless it gave up
abbrev pub Works : (Standing → List SessionEvent → Type 0) → Standing → List SessionEvent → Type 0
Works does s more = ((s.gave_up ≡ true) × (more ≡ [])) ⊎ ((s.gave_up ≡ false) × does s more)

-- what begins a part, and this behind it
pub record BeginsAnd (b : Basis) (s : Standing) (now : ℕ) (does : Standing → List SessionEvent → Type 0) (more : List SessionEvent) : Type 0 where
  pub first : List SessionEvent
  pub works : List SessionEvent
  pub all : more ≡ first ++ works
  pub begins : Begins b s now first
  pub works_as : Works does (after_all b s first) works

-- ---- at a link

-- the writing part; the delimiter where its take met it; and the end of the link where the write ended it
pub record WritesToLink (b : Basis) (s : Standing) (acts : List LinkAct) (now : ℕ) (more : List SessionEvent) : Type 0 where
  pub writes : List LinkAct
  pub delimiter : List SessionEvent
  pub closes : List SessionEvent
  pub all : more ≡ map (λ a. Acted a) writes ++ (delimiter ++ closes)
  pub write : WritesAt b s acts writes
  pub delimiter_is : DelimiterIsDue b s writes delimiter
  pub closing :
      ((cause : LinkEnd) × IsEndedBy writes cause
      × ClosesLink b (after_all b s (map (λ a. Acted a) writes ++ delimiter)) (Unit {0}) (Unit {0}) (acts ++ writes) cause now closes)
      ⊎ ((IsEnded writes → ⊥) × (closes ≡ []))

-- a link on which what was heard is refused is written no more
abbrev pub WritesAtLink : Basis → ℕ → List LinkAct → Standing → List SessionEvent → Type 0
WritesAtLink b now acts s more = (IsRefused b acts × (more ≡ [])) ⊎ ((IsRefused b acts → ⊥) × WritesToLink b s acts now more)

-- why a link is over behind its reading part: an answer ended it; or what was heard is refused, and its handshake isn't said to be done just now, since then the control plane makes the pair first
abbrev pub IsOverBy : Basis → (acts reads : List LinkAct) → (shaken : List SessionEvent) → LinkEnd → Type 0
IsOverBy b acts reads shaken cause = IsEndedBy reads cause ⊎ ((IsEnded reads → ⊥) × ((shaken ≡ []) × IsRefusedBy b (acts ++ reads) cause))

-- the reading part, unless what was heard is refused; the handshake where it is done; and the end of the link where it is over. Where it was refused before, what is held is put then.
pub record ReadsAtLink (b : Basis) (now : ℕ) (acts : List LinkAct) (s : Standing) (more : List SessionEvent) : Type 0 where
  pub reads : List LinkAct
  pub shaken : List SessionEvent
  pub closes : List SessionEvent
  pub all : more ≡ map (λ a. Acted a) reads ++ (shaken ++ closes)
  pub read : (IsRefused b acts × (reads ≡ [])) ⊎ ((IsRefused b acts → ⊥) × ReadsAt b s acts reads)
  pub shaken_is : ShakenIsDue b (after_all b s (map (λ a. Acted a) reads)) (acts ++ reads) shaken
  pub closing :
      ((cause : LinkEnd) × IsOverBy b acts reads shaken cause
      × ClosesLink b (after_all b s (map (λ a. Acted a) reads ++ shaken)) (IsRefused b acts) (IsEnded reads) (acts ++ reads) cause now closes)
      ⊎ (((cause : LinkEnd) → IsOverBy b acts reads shaken cause → ⊥) × (closes ≡ []))

-- ---- the parts, and the turn

-- without a link: what begins a part, a look where the end can be read, and one dial where that is due
abbrev pub DialsAt : Basis → Standing → Option (List LinkAct) → ℕ → List SessionEvent → Type 0
DialsAt b s None now more = BeginsAnd b s now (λ t works. IsUnlinkedTurn b t now works) more
DialsAt b s (Some acts) now more = more ≡ []

abbrev pub IsDialPart : Basis → Standing → ℕ → List SessionEvent → Type 0
IsDialPart b s now more = DialsAt b s s.link now more

-- with one: what begins a part, and what is written
abbrev pub LinkWritesAt : Basis → Standing → Option (List LinkAct) → ℕ → List SessionEvent → Type 0
LinkWritesAt b s None now more = more ≡ []
LinkWritesAt b s (Some acts) now more = BeginsAnd b s now (WritesAtLink b now acts) more

abbrev pub IsLinkWrite : Basis → Standing → ℕ → List SessionEvent → Type 0
IsLinkWrite b s now more = LinkWritesAt b s s.link now more

-- and what is read
abbrev pub LinkReadsAt : Basis → Standing → Option (List LinkAct) → ℕ → List SessionEvent → Type 0
LinkReadsAt b s None now more = more ≡ []
LinkReadsAt b s (Some acts) now more = Works (ReadsAtLink b now acts) s more

abbrev pub IsLinkRead : Basis → Standing → ℕ → List SessionEvent → Type 0
IsLinkRead b s now more = LinkReadsAt b s s.link now more

-- one behind the other, where it has a link as it begins
pub record WritesAndReads (b : Basis) (s : Standing) (now : ℕ) (more : List SessionEvent) : Type 0 where
  pub writes : List SessionEvent
  pub reads : List SessionEvent
  pub all : more ≡ writes ++ reads
  pub write : IsLinkWrite b s now writes
  pub read : IsLinkRead b (after_all b s writes) now reads

abbrev pub TurnsAt : Basis → Standing → Option (List LinkAct) → ℕ → List SessionEvent → Type 0
TurnsAt b s None now more = IsDialPart b s now more
TurnsAt b s (Some acts) now more = WritesAndReads b s now more

abbrev pub IsTurn : Basis → Standing → ℕ → List SessionEvent → Type 0
IsTurn b s now more = TurnsAt b s s.link now more
