-- What was done to the pipes of a socket's ends was done to such as may be, by where its ends were (own choice, after libzmq's `pipe_t`).
use Rattle.std.specs.Prelude.{◌≡◌, ◌≤◌, ◌++◌, ℕ, true, List, length}
use Rattle.std.specs.List.{AllByRecursion}
use Rattle.zq_base.specs.declared.ids.EndId.{EndId}
use Rattle.msg_pipe.specs.Known.{Known}
use Rattle.spec_control.specs.declared.entry.Item.{Item}
use Rattle.spec_control.specs.Control.{begun}
use Rattle.spec_control.specs.ControlRun.{after_all, IsControlRun}
use Rattle.spec_control.specs.Moments.{moments_from}
use Rattle.end_table.specs.declared.table.Place.{Place}
use Rattle.end_table.specs.declared.changes.PipeChange.{PipeChange}
use Rattle.end_table.specs.Changes.{sealings_in, DoesChanges, WereHeld}
use Rattle.sock_core.specs.Came.{AreChangedAt}
use Rattle.sock_core.specs.Noted.{TellsSeals}
use Rattle.socket_laws.specs.Ends.{PlacesGoOn}
use Rattle.socket_laws.specs.Changes.{IsOfPipes}
use Rattle.socket_laws.specs.Said.{sealed_with}

-- what was changed at places behind so many was changed at such that are held
abbrev pub AreHeldSince : {N O I S : Type 0} → ℕ → List (Place N I) → List (PipeChange O I × S) → Type 0
AreHeldSince many ps changes = AreChangedAt (λ k p. p.held ≡ true) many ps changes

-- over one item at the most, with these places, what was done to the pipes of ends that were held, or came to be, was done to such as may be
abbrev pub ChangesAreOfPipes : {S O I N : Type 0} → Known S O I N → (T : Type 0) → Type 0
ChangesAreOfPipes {S} {O} {I} {N} K T = (io : ℕ) (items more : List (Item N T)) → IsControlRun (begun io) items → IsControlRun (after_all items (begun io)) more → length more ≤ 1 →
    let c = after_all items (begun io) in
    let now = after_all more c in
    (was ps : List (Place N I)) → PlacesGoOn c now was ps → (changes : List (PipeChange O I × S)) (old new : S) → WereHeld was changes → AreHeldSince (length was) ps changes → DoesChanges K ps old changes new →
    (before sealed : List EndId) → TellsSeals before (sealings_in changes) sealed → sealed ≡ before ++ sealed_with (moments_from c more) →
    AllByRecursion (λ x. IsOfPipes c now x.0) changes
