-- What a call of the reaper leaves of all pipes, and of what is on its way (own choice, after libzmq's `reaper_t`).
use Rattle.std.specs.Prelude.{List}
use Rattle.spec_control.specs.Names.{name_of}
use Rattle.msg_pipe.specs.Known.{Known, IsThere}
use Rattle.desk.specs.declared.given.Given.{Given}
use Rattle.desk.specs.TakingOver.{AreGivenWith}
use Rattle.ctl_plane.specs.Giving.{AreOnTheirWay}
use Rattle.ctl_plane.specs.Past.{control_of}
use Rattle.desk.specs.Coming.{TakesEnds}
use Rattle.end_table.specs.declared.changes.PipeChange.{PipeChange}
use Rattle.socket_laws.specs.Names.{NamesStand}
use Rattle.closed_ends.specs.declared.sockets.ClosedSockets.{ClosedSockets}
use Rattle.plain_desk.specs.Lent.{Lent}
use Rattle.core_laws.specs.ReapedComing.{AwayUnsealed}
use Rattle.core_laws.specs.Ends.{ReaperDid, ReaperGoesOn}

-- where each pipe that has a name has one of its own, it stays unsealed over a call in which the ends go on
abbrev pub ReaperKeepsUnsealed : {S O I N : Type 0} → Known S O I N → (T : Type 0) → Type 0
ReaperKeepsUnsealed {S} {O} {I} {N} K T = (old new : Lent (Given N O I) N T) (before behind : S) (from to : ClosedSockets N O I) (changes : List (PipeChange O I × S)) →
    (did : ReaperDid K old new before behind from to changes) → ∥ ReaperGoesOn K old new did.call from to ∥₁ → NamesStand K (control_of old.past) (name_of old.items) before →
    AwayUnsealed K old before → AwayUnsealed K new behind

-- all pipes are there behind it
abbrev pub ReaperLeavesThere : {S O I N : Type 0} → Known S O I N → (T : Type 0) → Type 0
ReaperLeavesThere {S} {O} {I} {N} K T = (old new : Lent (Given N O I) N T) (before behind : S) (from to : ClosedSockets N O I) (changes : List (PipeChange O I × S)) →
    ReaperDid K old new before behind from to changes → (n : N) → IsThere K before n → IsThere K behind n

-- so each pipe that has a name has one of its own still
abbrev pub ReaperKeepsNames : {S O I N : Type 0} → Known S O I N → (T : Type 0) → Type 0
ReaperKeepsNames {S} {O} {I} {N} K T = (old new : Lent (Given N O I) N T) (before behind : S) (from to : ClosedSockets N O I) (changes : List (PipeChange O I × S)) →
    ReaperDid K old new before behind from to changes → NamesStand K (control_of old.past) (name_of old.items) before → NamesStand K (control_of new.past) (name_of new.items) behind

-- the ends that are on their way to it still are with their halves
abbrev pub ReaperKeepsGiven : {S O I N : Type 0} → Known S O I N → (T : Type 0) → Type 0
ReaperKeepsGiven {S} {O} {I} {N} K T = (old new : Lent (Given N O I) N T) (before behind : S) (from to : ClosedSockets N O I) (changes : List (PipeChange O I × S)) →
    (did : ReaperDid K old new before behind from to changes) → ∥ ReaperGoesOn K old new did.call from to ∥₁ → NamesStand K (control_of old.past) (name_of old.items) before →
    AreOnTheirWay K.in_name (control_of new.past) (name_of new.items) new.past.given → TakesEnds old.past.given new.past.given →
    AreGivenWith K before old.past.given → AreGivenWith K behind new.past.given
