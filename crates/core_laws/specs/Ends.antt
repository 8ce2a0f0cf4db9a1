-- Where the ends of closed sockets are over a call of the reaper, and what it leaves of the steps past (own choice, after libzmq's `reaper_t`).
use Rattle.std.specs.Prelude.{◌≡◌, ◌<◌, ◌++◌, Bool, true, false, List, Some, All, flat_map, length}
use Rattle.zq_base.specs.Ends.{PipeId}
use Rattle.msg_pipe.specs.Known.{Known}
use Rattle.spec_pattern.specs.PipeStep.{PipeStep}
use Rattle.spec_control.specs.declared.entry.Did.{Did}
use Rattle.spec_control.specs.declared.entry.Did.TheVariants.{Asked, Delivered, Delimited}
use Rattle.spec_control.specs.declared.entry.Item.{Item}
use Rattle.spec_control.specs.declared.entry.Item.TheVariants.{Event, Seen}
use Rattle.spec_control.specs.declared.letter.Word.{Word}
use Rattle.spec_control.specs.declared.letter.Word.TheVariants.{Own, Plug, TermReq, Term, TermAck, PipeBind, PipeTerm, PipeTermAck, Stop, Reap}
use Rattle.spec_control.specs.Control.{next_pair}
use Rattle.spec_control.specs.Names.{name_of}
use Rattle.spec_control.specs.Moments.{Moment, moments_from}
use Rattle.desk.specs.declared.given.Given.{Given}
use Rattle.ctl_plane.specs.Past.{control_of}
use Rattle.desk.specs.Coming.{TakesEnds}
use Rattle.desk.specs.Desk.{CountsWith, HasWhatTheySay, KeepsUp}
use Rattle.spec_run.specs.Act.{steps_in}
use Rattle.spec_run.specs.Event.{acts_said}
use Rattle.spec_run.specs.OwnedRun.{AreCountedBy}
use Rattle.end_table.specs.declared.changes.PipeChange.{PipeChange}
use Rattle.socket_laws.specs.Standing.{PastStands}
use Rattle.socket_laws.specs.Changes.{ArePlacesNamed}
use Rattle.socket_laws.specs.Said.{sealed_with}
use Rattle.closed_ends.specs.declared.sockets.ClosedSockets.{ClosedSockets}
use Rattle.closed_ends.specs.Coming.{HasCome, IsBrought}
use Rattle.closed_ends.specs.Counting.{counts_of}
use Rattle.closed_ends.specs.Has.{all_ends, holding_in}
use Rattle.closed_ends.specs.Noted.{first_places, HasDoneTo}
use Rattle.closed_ends.specs.Sound.{AreSound}
use Rattle.core_laws.specs.ReaperCalls.{came_since, told_since}
use Rattle.core_laws.specs.Moves.{EndsGoOn}
use Rattle.core_laws.specs.Sealed.{AllAsked}
use Rattle.plain_desk.specs.Lent.{moments_of, Lent}
use Rattle.core_laws.specs.ReapedCall.{IsReapersCall}

-- a command with which no end joins its addressee, and none is taken over
abbrev pub brings_none : Word → Bool
brings_none (Own child) = true
brings_none (Plug end) = false
brings_none (TermReq child) = true
brings_none Term = true
brings_none (TermAck child) = true
brings_none (PipeBind e peer) = false
brings_none (PipeTerm e) = true
brings_none (PipeTermAck e) = true
brings_none Stop = true
brings_none (Reap socket) = false

module _ {N S : Type 0} where
  -- an event that is no request, and no other command than such; or a look
  abbrev pub brings_none_in : Did N S → Bool
  brings_none_in (Asked req reply h) = false
  brings_none_in (Delivered slot letter h) = brings_none letter.word
  brings_none_in (Delimited e h) = true

  abbrev pub brings_none_by : Item N S → Bool
  brings_none_by (Event entry) = brings_none_in entry.did
  brings_none_by (Seen sight) = true

module _ {S O I N T : Type 0} (K : Known S O I N) where
  -- in a call of the reaper closed sockets went from one state to another, each time with what the moments say, by these changes of their pipes; what came with a closed socket was on its way, and this socket's
  pub record ReaperDid (old new : Lent (Given N O I) N T) (before behind : S) (from to : ClosedSockets N O I) (changes : List (PipeChange O I × S)) : Type 0 where
    pub call : IsReapersCall old new
    pub was_sound : AreSound K before from.sockets.items
    pub sound : AreSound K behind to.sockets.items
    pub has : HasWhatTheySay old.caller (moments_of old) (holding_in K.out_name K.in_name from)
    pub keeps : KeepsUp new.caller (moments_of old) (moments_of new) (holding_in K.out_name K.in_name from) (holding_in K.out_name K.in_name to)
    pub done : ∥ HasDoneTo K before from changes behind to ∥₁
    pub came_are : to.came.items ≡ from.came.items ++ came_since from to
    pub came : ∥ HasCome K (IsBrought (control_of old.past) old.past.given) from to ∥₁

  -- the moments of the call
  abbrev pub moments_since : {old new : Lent (Given N O I) N T} → IsReapersCall old new → List (Moment N T)
  moments_since {old} call = moments_from (control_of old.past) call.grows.more

  -- the ends go on from where they were, pipes go by the names that they had, and just those were told to be sealed that the moments tell
  pub record ReaperGoesOn (old new : Lent (Given N O I) N T) (call : IsReapersCall old new) (from to : ClosedSockets N O I) : Type 0 where
    pub ends : EndsGoOn K.in_name (control_of old.past) (control_of new.past) from to
    pub named : ArePlacesNamed (name_of old.items) (first_places K.in_name from (came_since from to))
    pub names : (p : PipeId) → name_of new.items p ≡ name_of old.items p
    pub told : told_since from to ≡ sealed_with (moments_since call)

  -- behind it the steps past stand with those of its items, each end that is told as sealed was asked, and settled pipes have their counts
  pub record ReaperStands (old new : Lent (Given N O I) N T) (call : IsReapersCall old new) (before behind : S) (to : ClosedSockets N O I) : Type 0 where
    pub past : (past : List PipeStep) → PastStands K (control_of old.past) (name_of old.items) before past → PastStands K (control_of new.past) (name_of new.items) behind (past ++ steps_in (flat_map acts_said (moments_since call)))
    pub names_made : (p : PipeId) (n : N) → name_of new.items p ≡ Some n → p.pair.0 < next_pair (control_of new.past)
    pub asked : AllAsked (control_of new.past) (all_ends to.sockets.items)
    pub counted : (past : List PipeStep) → PastStands K (control_of old.past) (name_of old.items) before past → AreCountedBy past (control_of old.past).settlements →
        AreCountedBy (past ++ steps_in (flat_map acts_said (moments_since call))) (control_of new.past).settlements

-- ---- the laws

-- with such an item no end came
abbrev pub NoneCame : {S O I N : Type 0} → Known S O I N → (T : Type 0) → Type 0
NoneCame {S} {O} {I} {N} K T = (old new : Lent (Given N O I) N T) (before behind : S) (from to : ClosedSockets N O I) (changes : List (PipeChange O I × S)) →
    (did : ReaperDid K old new before behind from to changes) → All (λ item. brings_none_by item ≡ true) did.call.grows.more → length to.came.items ≡ length from.came.items

-- where no end came
abbrev pub ReapedEndsGoOn : {S O I N : Type 0} → Known S O I N → (T : Type 0) → Type 0
ReapedEndsGoOn {S} {O} {I} {N} K T = (old new : Lent (Given N O I) N T) (before behind : S) (from to : ClosedSockets N O I) (changes : List (PipeChange O I × S)) →
    (did : ReaperDid K old new before behind from to changes) → length to.came.items ≡ length from.came.items → ReaperGoesOn K old new did.call from to

-- where each that is told as sealed was asked; the counts are those of the ends that it had
abbrev pub ReaperCallsStand : {S O I N : Type 0} → Known S O I N → (T : Type 0) → Type 0
ReaperCallsStand {S} {O} {I} {N} K T = (old new : Lent (Given N O I) N T) (before behind : S) (from to : ClosedSockets N O I) (changes : List (PipeChange O I × S)) →
    (did : ReaperDid K old new before behind from to changes) → length to.came.items ≡ length from.came.items → ((p : PipeId) (n : N) → name_of old.items p ≡ Some n → p.pair.0 < next_pair (control_of old.past)) →
    AllAsked (control_of old.past) (all_ends from.sockets.items) →
    CountsWith K.out_name (λ e writer. counts_of K before from.sockets.items e writer) (moments_of old) (moments_of new) (holding_in K.out_name K.in_name from) →
    ReaperStands K old new did.call before behind to

-- what is on its way still was asked, too, where it is told as sealed
abbrev pub GivenStay : (N O I T : Type 0) → Type 0
GivenStay N O I T = (old new : Lent (Given N O I) N T) → IsReapersCall old new → TakesEnds old.past.given new.past.given →
    AllAsked (control_of old.past) old.past.given → AllAsked (control_of new.past) new.past.given
