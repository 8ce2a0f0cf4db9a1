-- One call of an open socket, and what stands of the steps past behind it (own choice, after libzmq's `socket_base_t`).
use Rattle.std.specs.Prelude.{◌≡◌, ◌==◌, ◌++◌, ℕ, Bool, true, false, List, Some, map}
use Rattle.zq_base.specs.declared.ids.EndId.{EndId}
use Rattle.zq_base.specs.declared.kind.Kind.{Kind}
use Rattle.msg_pipe.specs.Known.{Known, IsThere}
use Rattle.spec_pattern.specs.PipeStep.{PipeStep}
use Rattle.spec_control.specs.declared.request.Req.{Req}
use Rattle.spec_control.specs.declared.request.Reply.{Reply}
use Rattle.spec_control.specs.Names.{name_of}
use Rattle.spec_control.specs.Held.{asker}
use Rattle.spec_control.specs.Moments.{Moment}
use Rattle.desk.specs.declared.given.Given.{Given}
use Rattle.desk.specs.Asking.{IsOfSockets}
use Rattle.desk.specs.Making.{IsMadeFor}
use Rattle.ctl_plane.specs.Past.{control_of}
use Rattle.desk.specs.Desk.{HasWhatTheySay, KeepsUp, counts_with}
use Rattle.spec_run.specs.Act.{Act, steps_in}
use Rattle.spec_run.specs.Event.{IsRequest}
use Rattle.spec_run.specs.OwnedRun.{AreCountedBy}
use Rattle.end_table.specs.declared.changes.PipeChange.{PipeChange}
use Rattle.end_table.specs.Others.{Leaves}
use Rattle.sock_core.specs.declared.sock.SockCore.{SockCore}
use Rattle.sock_core.specs.Came.{AreChangedAt}
use Rattle.sock_core.specs.Has.{holding_in}
use Rattle.sock_core.specs.Sound.{AreSound}
use Rattle.sock_calls.specs.Calls.{counts_by, DoesSo}
use Rattle.plain_desk.specs.Lent.{Lent, GrowsBy, IsOneOrder, moments_of}
use Rattle.socket_laws.specs.Behind.{IsOneCall}
use Rattle.socket_laws.specs.Open.{IsOfItem}
use Rattle.socket_laws.specs.Sides.{AreAtEnds}
use Rattle.socket_laws.specs.Standing.{PastStands}
use Rattle.socket_laws.specs.Places.{IsOwnPlace}
use Rattle.socket_laws.specs.OwnQuiet.{may_pair_by}
use Rattle.socket_laws.specs.Asked.{WereAsked}
use Rattle.socket_laws.specs.Changes.{NamesGoOn}

-- ---- which pipes were made

-- an item gives no pair its number and no pipe a name, or is this object's request, for whose ends what may be made was made
pub data OpensBy {N T : Type 0} (made : Bool) (may_make : EndId → ℕ → ℕ → Type 0) (o : ℕ) (m : Moment N T) : Type 0 where
  opens_none : may_pair_by m.item ≡ false → OpensBy made may_make o m
  opens_some : made ≡ true → (req : Req) (reply : Reply) → IsRequest req reply m → IsOfSockets true req → asker req ≡ Some o →
      ((e : EndId) (written read : ℕ) → may_make e written read → IsMadeFor m.found req e written read) → OpensBy made may_make o m

-- ---- what stands

module _ {S O I N : Type 0} (K : Known S O I N) where
  -- looks are exact, and halves of one name know the same
  pub record IsExact : Type 0 where
    pub exact : K.exact ≡ true
    pub one_out : (s : S) (o p : O) → K.out_name o ≡ K.out_name p → K.writing s o ≡ K.writing s p
    pub one_in : (s : S) (i j : I) → K.in_name i ≡ K.in_name j → K.reading s i ≡ K.reading s j

module _ {S O I N : Type 0} (K : Known S O I N) {T : Type 0} where
  -- the steps past stand where the order is so
  abbrev pub PastAt : Lent (Given N O I) N T → S → List PipeStep → Type 0
  PastAt d pipes past = PastStands K (control_of d.past) (name_of d.items) pipes past

  -- What stands behind a call of an object that did these acts: the pipes are there still; where looks are exact, the steps past stand with those of the acts, and settled pipes have their counts; the acts are at ends of the object.
  pub record StandsOver (o : ℕ) (d : Lent (Given N O I) N T) (before : S) (acts : List (Act N T)) (e : Lent (Given N O I) N T) (now : S) : Type 0 where
    pub there : (n : N) → IsThere K before n → IsThere K now n
    pub past : IsExact K → (past : List PipeStep) → PastAt d before past → PastAt e now (past ++ steps_in acts)
    pub counted : IsExact K → (past : List PipeStep) → PastAt d before past → AreCountedBy past (control_of d.past).settlements → AreCountedBy (past ++ steps_in acts) (control_of e.past).settlements
    pub at_ends : AreAtEnds (control_of e.past) (λ i. i == o) acts

-- the ends that a socket was told to seal
abbrev pub told_to_seal : {C W N O I : Type 0} → SockCore C W N O I → List EndId
told_to_seal s = map (λ x. x.0) s.sealed.items

-- a call added no item
pub record AddsNone {G N T : Type 0} (d e : Lent G N T) : Type 0 where
  pub before : IsOneOrder d
  pub behind : IsOneOrder e
  pub grows : GrowsBy d e
  pub same : moments_of e ≡ moments_of d

module _ {C W N O I S T : Type 0} (K : Known S O I N) (kind : C → Kind) where
  -- A call of a socket on the control plane, from one state of the order to another: what the socket had before is what its caller's moments say, and it keeps up with them; its ends had halves of these pipes, and what the call did to pipes it did at its ends.
  pub record IsCalledBy (made : Bool) (may_make : EndId → ℕ → ℕ → Type 0) (d : Lent (Given N O I) N T) (before : S) (a : SockCore C W N O I) (e : Lent (Given N O I) N T) (now : S) (b : SockCore C W N O I) : Type 0 where
    pub has : HasWhatTheySay d.caller (moments_of d) (holding_in (kind a.kind) a)
    pub holds : (holding_in (kind a.kind) a).holds a.number.0 ≡ true
    pub keeps : KeepsUp e.caller (moments_of d) (moments_of e) (holding_in (kind a.kind) a) (holding_in (kind b.kind) b)
    pub number : b.number.0 ≡ a.number.0
    pub sound : AreSound K before a.ends.rows.items a.ends.places.items
    pub others : Leaves K before a.ends now b.ends
    pub does : DoesSo K made may_make before a now b
    -- each end that it was told to seal was asked
    pub were_asked : WereAsked (control_of d.past) (told_to_seal a)

  -- one such call added this item, which is of the socket; a command that settles a pipe tells its counts
  pub record AddsItem (made : Bool) (may_make : EndId → ℕ → ℕ → Type 0) (d : Lent (Given N O I) N T) (before : S) (a : SockCore C W N O I) (e : Lent (Given N O I) N T) (m : Moment N T) : Type 0 where
    pub call : IsOneCall d e m
    pub of_it : IsOfItem a.number.0 m.found m.item
    pub opens : OpensBy made may_make a.number.0 m
    pub counts : counts_with K.out_name (counts_by K before (Some a)) (holding_in (kind a.kind) a) m.item

  -- what it left the socket with: each end that it was told to seal was asked, each place at which pipes were changed is of an end of its, and pipes that go by names since were made
  pub record LeavesIt (o : ℕ) (d e : Lent (Given N O I) N T) (b : SockCore C W N O I) (changes : List (PipeChange O I × S)) : Type 0 where
    pub were_asked : WereAsked (control_of e.past) (told_to_seal b)
    pub places : AreChangedAt (λ k p. IsOwnPlace (control_of e.past) (name_of e.items) o p) 0 b.ends.places.items changes
    pub names_go : NamesGoOn K (control_of d.past) (control_of e.past) changes (name_of d.items) (name_of e.items)
