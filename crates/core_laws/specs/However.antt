-- What goes on over a call of the reaper, however ends came to closed sockets in it (own choice, after libzmq's `reaper_t`).
use Rattle.std.specs.Prelude.{◌≡◌, ◌⊎◌, ◌<◌, true, List, Some}
use Rattle.std.specs.List.{list_any}
use Rattle.zq_base.specs.Ends.{PipeId}
use Rattle.zq_base.specs.declared.ids.ObjId.{ObjId}
use Rattle.msg_pipe.specs.Known.{Known}
use Rattle.spec_control.specs.declared.entry.Joining.{Joining}
use Rattle.spec_control.specs.Control.{next_pair}
use Rattle.spec_control.specs.Names.{name_of}
use Rattle.desk.specs.declared.given.Given.{Given}
use Rattle.ctl_plane.specs.Giving.{AreOnTheirWay}
use Rattle.ctl_plane.specs.Past.{control_of}
use Rattle.desk.specs.Desk.{CountsWith}
use Rattle.end_table.specs.declared.changes.PipeChange.{PipeChange}
use Rattle.closed_ends.specs.declared.sockets.ClosedSockets.{ClosedSockets}
use Rattle.closed_ends.specs.Coming.{IsBrought}
use Rattle.closed_ends.specs.Counting.{counts_of}
use Rattle.closed_ends.specs.Has.{all_ends, holding_in, is_socket}
use Rattle.core_laws.specs.Came.{CameAll, CameOne}
use Rattle.core_laws.specs.Goes.{StandsNew}
use Rattle.core_laws.specs.Sealed.{AllAsked}
use Rattle.plain_desk.specs.Lent.{moments_of, Lent}
use Rattle.core_laws.specs.Ends.{ReaperDid, ReaperGoesOn, ReaperStands}

module _ {S O I N T : Type 0} (K : Known S O I N) (old new : Lent (Given N O I) N T) (from to : ClosedSockets N O I) where
  -- the ends of this closed socket came, which the reaper has since
  pub record CameOf (o : ObjId) : Type 0 where
    pub all : CameAll K (IsBrought (control_of old.past) old.past.given) o.0 from to
    pub held : list_any (is_socket o.0) to.sockets.items ≡ true

  -- one end came, which joined
  pub record CameJoined (j : Joining N) : Type 0 where
    pub one : CameOne K j from to
    pub stands : StandsNew K (control_of old.past) (control_of new.past) (name_of old.items) from to j

  -- none came, or one that joined, or those of one closed socket
  abbrev pub CameHow : Type 0
  CameHow = (to.came.items ≡ from.came.items) ⊎ (((j : Joining N) × CameJoined j) ⊎ ((o : ObjId) × CameOf o))

-- ---- the laws

-- ends go on however they came, where those that were on their way were so
abbrev pub ReaperEndsGoOnHowever : {S O I N : Type 0} → Known S O I N → (T : Type 0) → Type 0
ReaperEndsGoOnHowever {S} {O} {I} {N} K T = (old new : Lent (Given N O I) N T) (before behind : S) (from to : ClosedSockets N O I) (changes : List (PipeChange O I × S)) →
    (did : ReaperDid K old new before behind from to changes) → AreOnTheirWay K.in_name (control_of old.past) (name_of old.items) old.past.given →
    CameHow K old new from to → ReaperGoesOn K old new did.call from to

-- so does what stands, where each that is told as sealed was asked, on its way too
abbrev pub ReaperCallsStandHowever : {S O I N : Type 0} → Known S O I N → (T : Type 0) → Type 0
ReaperCallsStandHowever {S} {O} {I} {N} K T = (old new : Lent (Given N O I) N T) (before behind : S) (from to : ClosedSockets N O I) (changes : List (PipeChange O I × S)) →
    (did : ReaperDid K old new before behind from to changes) → AreOnTheirWay K.in_name (control_of old.past) (name_of old.items) old.past.given →
    CameHow K old new from to → ((p : PipeId) (n : N) → name_of old.items p ≡ Some n → p.pair.0 < next_pair (control_of old.past)) →
    AllAsked (control_of old.past) (all_ends from.sockets.items) → AllAsked (control_of old.past) old.past.given →
    CountsWith K.out_name (λ e writer. counts_of K before from.sockets.items e writer) (moments_of old) (moments_of new) (holding_in K.out_name K.in_name from) →
    ReaperStands K old new did.call before behind to
