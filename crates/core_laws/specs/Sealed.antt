-- Each end of closed sockets whose pipe is told to be sealed was asked (own choice, after libzmq's `pipe_t`).
use Rattle.std.specs.Prelude.{◌≡◌, ◌++◌, ℕ, true, List, [], ◌∷◌, All, map}
use Rattle.msg_pipe.specs.Known.{Known}
use Rattle.spec_control.specs.declared.entry.Item.{Item}
use Rattle.spec_control.specs.Control.{Control, begun}
use Rattle.spec_control.specs.ControlRun.{after_all, IsControlRun}
use Rattle.spec_control.specs.Moments.{moments_from}
use Rattle.desk.specs.declared.given.Given.{Given}
use Rattle.end_table.specs.declared.changes.PipeChange.{PipeChange}
use Rattle.socket_laws.specs.Asked.{WereAsked}
use Rattle.socket_laws.specs.Said.{sealed_with}
use Rattle.closed_ends.specs.declared.sockets.ClosedSockets.{ClosedSockets}
use Rattle.closed_ends.specs.Finding.{came_given}
use Rattle.closed_ends.specs.Has.{all_ends}
use Rattle.closed_ends.specs.Noted.{sealed_ends, first_places, HasDoneTo}
use Rattle.core_laws.specs.ReaperCalls.{told_since}

-- each of these ends that is told as sealed was asked, or is gone
abbrev pub AllAsked : {N O I : Type 0} → Control → List (Given N O I) → Type 0
AllAsked c gs = All (λ g. g.sealed ≡ true → WereAsked c (g.end ∷ [])) gs

-- that goes on over a control run
abbrev pub AskedGoOn : (N T : Type 0) → Type 0 → Type 0 → Type 0
AskedGoOn N T O I = (io : ℕ) (items more : List (Item N T)) → IsControlRun (begun io) items → IsControlRun (after_all items (begun io)) more →
    let c = after_all items (begun io) in
    (gs : List (Given N O I)) → AllAsked c gs → AllAsked (after_all more c) gs

-- and over calls of the reaper: it is so of the ends that it had, of those that closed sockets brought, and of those that it has
abbrev pub ReaperEndsWereAsked : {S O I N : Type 0} → Known S O I N → (T : Type 0) → Type 0
ReaperEndsWereAsked {S} {O} {I} {N} K T = (io : ℕ) (items more : List (Item N T)) → IsControlRun (begun io) items → IsControlRun (after_all items (begun io)) more →
    let c = after_all items (begun io) in
    let now = after_all more c in
    (from to : ClosedSockets N O I) (old new : S) (changes : List (PipeChange O I × S)) (gs : List (Given N O I)) →
    ∥ HasDoneTo K old from changes new to ∥₁ → to.came.items ≡ from.came.items ++ map (came_given K.in_name) gs → told_since from to ≡ sealed_with (moments_from c more) →
    AllAsked c (all_ends from.sockets.items) → AllAsked c gs →
    WereAsked c (sealed_ends (first_places K.in_name from (map (came_given K.in_name) gs))) × AllAsked now (all_ends to.sockets.items)
