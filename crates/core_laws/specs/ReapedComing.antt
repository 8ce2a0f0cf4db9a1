-- What is on its way to closed sockets, and what the reaper may take over (own choice, after libzmq's `reaper_t`).
use Rattle.std.specs.Prelude.{◌≡◌, ℕ, true, false, List, Some}
use Rattle.zq_base.specs.Ends.{PipeId}
use Rattle.zq_base.specs.declared.ids.EndId.{EndId}
use Rattle.msg_pipe.specs.Known.{Known, IsThere}
use Rattle.spec_control.specs.Place.{is_away}
use Rattle.spec_control.specs.Rows.{obj}
use Rattle.spec_control.specs.Control.{Control, id, place_of}
use Rattle.spec_control.specs.Names.{name_of}
use Rattle.spec_control.specs.Has.{has_after}
use Rattle.desk.specs.declared.given.Given.{Given}
use Rattle.desk.specs.Holding.{Holding}
use Rattle.desk.specs.TakingOver.{AreDistinct, AreGivenWith, MayTakeFirst}
use Rattle.ctl_plane.specs.Past.{control_of}
use Rattle.desk.specs.Coming.{BindsFit}
use Rattle.desk.specs.Desk.{HasWhatTheySay}
use Rattle.control_laws.specs.Closed.{lives}
use Rattle.closed_ends.specs.declared.sockets.ClosedSockets.{ClosedSockets}
use Rattle.closed_ends.specs.Finding.{HasRoom}
use Rattle.closed_ends.specs.Has.{holding_in}
use Rattle.closed_ends.specs.Sound.{AreSound, MayJoin, MayTake}
use Rattle.plain_desk.specs.Lent.{coming_to, moments_of, IsOneOrder, Lent}
use Rattle.plain_desk.specs.Reaping.{is_taken, served_by}

-- nothing was sealed in the pipe that an end writes which is on its way
abbrev pub AwayUnsealed : {S O I N G T : Type 0} → Known S O I N → Lent G N T → S → Type 0
AwayUnsealed {O = O} K d pipes = (e : EndId) (h : O) → is_away (place_of (control_of d.past) e) ≡ true → name_of d.items e ≡ Some (K.out_name h) → (K.writing pipes h).sealed ≡ false

-- each closed socket that was taken over and lives is had
abbrev pub HasTaken : {N : Type 0} → Control → Holding N → Type 0
HasTaken c h = (i : ℕ) → is_taken (obj c.rows i) ≡ true → lives c (id i) ≡ true → h.holds i ≡ true

-- what a caller has are closed sockets that were taken over, and no others
abbrev pub HasOnlyTaken : {G N T : Type 0} → ℕ → Lent G N T → Type 0
HasOnlyTaken k d = (i : ℕ) → has_after i d.items ≡ Some k → is_taken (obj (control_of d.past).rows i) ≡ true

-- ---- the laws

-- halves on their way to such a socket fit the closed sockets
abbrev pub ClosedBindsFit : {S O I N : Type 0} → Known S O I N → (G T : Type 0) → Type 0
ClosedBindsFit {S} {O} {I} {N} K G T = (d : Lent G N T) → IsOneOrder d → AreDistinct K.exact (name_of d.items) → (pipes : S) →
    ((p : PipeId) (n : N) → name_of d.items p ≡ Some n → IsThere K pipes n) → AwayUnsealed K d pipes →
    (closed : ClosedSockets N O I) → AreSound K pipes closed.sockets.items → HasWhatTheySay d.caller (moments_of d) (holding_in K.out_name K.in_name closed) →
    (m i : ℕ) → served_by d m i ≡ true → BindsFit K.out_name K.in_name (name_of d.items) (coming_to d m) (λ h. MayJoin K pipes closed h)

-- ends that are with their halves may be taken over, where there is room
abbrev pub GivenMayBeTaken : {S O I N : Type 0} → Known S O I N → Type 0
GivenMayBeTaken {S} {O} {I} {N} K = (c : Control) (pipes : S) (closed : ClosedSockets N O I) (gs : List (Given N O I)) → AreGivenWith K pipes gs → HasRoom closed → MayTakeFirst (λ o ends. MayTake K pipes closed ends) c gs

-- whomever a caller serves that has none but closed sockets, it has
abbrev pub ServedAreHad : (G N T : Type 0) → Type 0
ServedAreHad G N T = (d : Lent G N T) (h : Holding N) → HasTaken (control_of d.past) h → HasOnlyTaken d.caller d → (m i : ℕ) → served_by d m i ≡ true → h.holds i ≡ true
