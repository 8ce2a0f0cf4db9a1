-- How ends came to closed sockets in a call of the reaper, by its item (own choice, after libzmq's `reaper_t`).
use Rattle.std.specs.Prelude.{◌≡◌, ◌<◌, Bool, true, false, List, Some, All}
use Rattle.zq_base.specs.Ends.{PipeId}
use Rattle.msg_pipe.specs.Known.{Known}
use Rattle.spec_control.specs.declared.entry.Did.{Did}
use Rattle.spec_control.specs.declared.entry.Did.TheVariants.{Asked, Delivered, Delimited}
use Rattle.spec_control.specs.declared.entry.Item.{Item}
use Rattle.spec_control.specs.declared.entry.Item.TheVariants.{Event, Seen}
use Rattle.spec_control.specs.declared.letter.Word.{Word}
use Rattle.spec_control.specs.declared.letter.Word.TheVariants.{Own, Plug, TermReq, Term, TermAck, PipeBind, PipeTerm, PipeTermAck, Stop, Reap}
use Rattle.spec_control.specs.Control.{next_pair}
use Rattle.spec_control.specs.Names.{name_of}
use Rattle.desk.specs.declared.given.Given.{Given}
use Rattle.ctl_plane.specs.Giving.{AreOnTheirWay}
use Rattle.ctl_plane.specs.Past.{control_of}
use Rattle.desk.specs.Desk.{CountsWith}
use Rattle.end_table.specs.declared.changes.PipeChange.{PipeChange}
use Rattle.closed_ends.specs.declared.sockets.ClosedSockets.{ClosedSockets}
use Rattle.closed_ends.specs.Counting.{counts_of}
use Rattle.closed_ends.specs.Has.{all_ends, holding_in}
use Rattle.core_laws.specs.Sealed.{AllAsked}
use Rattle.plain_desk.specs.Lent.{moments_of, Lent}
use Rattle.core_laws.specs.ReapedCall.{IsReapersCall}
use Rattle.core_laws.specs.ReapedComing.{HasOnlyTaken, HasTaken}
use Rattle.core_laws.specs.Ends.{ReaperDid, ReaperGoesOn, ReaperStands}
use Rattle.core_laws.specs.However.{CameHow}
use Rattle.core_laws.specs.Joining.{HasThem}

-- a command that takes a worker's object in
abbrev pub plugs : Word → Bool
plugs (Own child) = false
plugs (Plug end) = true
plugs (TermReq child) = false
plugs Term = false
plugs (TermAck child) = false
plugs (PipeBind e peer) = false
plugs (PipeTerm e) = false
plugs (PipeTermAck e) = false
plugs Stop = false
plugs (Reap socket) = false

module _ {N S : Type 0} where
  abbrev pub plugs_in : Did N S → Bool
  plugs_in (Asked req reply h) = false
  plugs_in (Delivered slot letter h) = plugs letter.word
  plugs_in (Delimited e h) = false

  abbrev pub plugs_by : Item N S → Bool
  plugs_by (Event entry) = plugs_in entry.did
  plugs_by (Seen sight) = false

module _ {N O I T : Type 0} (old new : Lent (Given N O I) N T) (call : IsReapersCall old new) (from : ClosedSockets N O I) where
  -- no object of a worker's was taken in, and what the caller has are closed sockets
  pub record ServesClosed : Type 0 where
    pub no_plug : All (λ x. plugs_by x ≡ false) call.grows.more
    pub all : HasThem old from

-- ---- the laws

-- no command of the reaper's is a Plug
abbrev pub NoPlugs : (G N T : Type 0) → Type 0
NoPlugs G N T = (old new : Lent G N T) (call : IsReapersCall old new) → All (λ x. plugs_by x ≡ false) call.grows.more

-- where a caller has none but closed sockets that were taken over, and these are had, what it has and lives is had
abbrev pub TakenAreHad : {S O I N : Type 0} → Known S O I N → (G T : Type 0) → Type 0
TakenAreHad {S} {O} {I} {N} K G T = (d : Lent G N T) (closed : ClosedSockets N O I) → HasTaken (control_of d.past) (holding_in K.out_name K.in_name closed) → HasOnlyTaken d.caller d → HasThem d closed

-- then ends came in one of these ways
abbrev pub ReaperCameSo : {S O I N : Type 0} → Known S O I N → (T : Type 0) → Type 0
ReaperCameSo {S} {O} {I} {N} K T = (old new : Lent (Given N O I) N T) (before behind : S) (from to : ClosedSockets N O I) (changes : List (PipeChange O I × S)) →
    (did : ReaperDid K old new before behind from to changes) → ServesClosed old new did.call from → ∥ CameHow K old new from to ∥₁

-- so the ends go on, where those that were on their way were so
abbrev pub ReaperGoesSo : {S O I N : Type 0} → Known S O I N → (T : Type 0) → Type 0
ReaperGoesSo {S} {O} {I} {N} K T = (old new : Lent (Given N O I) N T) (before behind : S) (from to : ClosedSockets N O I) (changes : List (PipeChange O I × S)) →
    (did : ReaperDid K old new before behind from to changes) → AreOnTheirWay K.in_name (control_of old.past) (name_of old.items) old.past.given →
    ServesClosed old new did.call from → ∥ ReaperGoesOn K old new did.call from to ∥₁

-- and what stands goes on, where those that were on their way were so, and each that is told as sealed was asked
abbrev pub ReaperCallsStandSo : {S O I N : Type 0} → Known S O I N → (T : Type 0) → Type 0
ReaperCallsStandSo {S} {O} {I} {N} K T = (old new : Lent (Given N O I) N T) (before behind : S) (from to : ClosedSockets N O I) (changes : List (PipeChange O I × S)) →
    (did : ReaperDid K old new before behind from to changes) → AreOnTheirWay K.in_name (control_of old.past) (name_of old.items) old.past.given →
    ServesClosed old new did.call from → ((p : PipeId) (n : N) → name_of old.items p ≡ Some n → p.pair.0 < next_pair (control_of old.past)) →
    AllAsked (control_of old.past) (all_ends from.sockets.items) → AllAsked (control_of old.past) old.past.given →
    CountsWith K.out_name (λ e writer. counts_of K before from.sockets.items e writer) (moments_of old) (moments_of new) (holding_in K.out_name K.in_name from) →
    ReaperStands K old new did.call before behind to
