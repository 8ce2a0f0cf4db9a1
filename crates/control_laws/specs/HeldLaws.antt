-- What a caller's own items say of the ends that it has is so in the control state (own choice).
use Rattle.std.specs.Prelude.{◌≡◌, ◌≢◌, ℕ, true, false, List, [], Option, Some, map}
use Rattle.zq_base.specs.declared.ids.EndId.{EndId}
use Rattle.spec_control.specs.declared.entry.Did.{Did}
use Rattle.spec_control.specs.declared.entry.Item.{Item}
use Rattle.spec_control.specs.Rows.{obj}
use Rattle.spec_control.specs.Control.{begun}
use Rattle.spec_control.specs.After.{after}
use Rattle.spec_control.specs.ControlRun.{Fits, after_all, is_between, IsControlRun}
use Rattle.spec_control.specs.Names.{name_of, AreNamed}
use Rattle.spec_control.specs.Held.{ends_after, items_by}
use Rattle.spec_control.specs.Has.{has_after, AreBy}
use Rattle.spec_control.specs.Moments.{moments_from, moments_by}
use Rattle.control_laws.specs.Spared.{touched_in}
use Rattle.desk.specs.Holding.{Holding}
use Rattle.desk.specs.Lent.{here_ends, HasAll}
use Rattle.desk.specs.Desk.{HasWhatTheySay}
use Rattle.desk.specs.Kinds.{kind_after}

-- of an object that somebody has: between a socket's close and its Reap nobody does
abbrev pub EndsAreHere : (N S : Type 0) → Type 0
EndsAreHere N S = (workers : ℕ) (items : List (Item N S)) → IsControlRun (begun workers) items →
    let c = after_all items (begun workers) in (i : ℕ) → is_between (obj c.rows i) ≡ false →
    map (λ x. x.end) (ends_after i items) ≡ here_ends c.rows.pairs c.attached i

-- an event leaves what the holders of other objects have, whatever names the pipes were given
abbrev pub OtherHoldersStay : (N S : Type 0) → Type 0
OtherHoldersStay N S = (workers : ℕ) (items : List (Item N S)) → IsControlRun (begun workers) items →
    let c = after_all items (begun workers) in (did : Did N S) → Fits c did → (names : EndId → Option N) (h : Holding N) →
    ((i : ℕ) → h.holds i ≡ true → touched_in c did ≢ Some i) → HasAll names c h → HasAll names (after did c) h

-- a holder that has what its caller's moments say has what the control state says that the whole order led to, with the names that the pipes were given
abbrev pub LentHoldersHaveIt : (N S : Type 0) → Type 0
LentHoldersHaveIt N S = (workers : ℕ) (items : List (Item N S)) → IsControlRun (begun workers) items → AreNamed [] items → AreBy [] (begun workers) items →
    (k : ℕ) (h : Holding N) → HasWhatTheySay k (moments_by k (moments_from (begun workers) items)) h → HasAll (name_of items) (after_all items (begun workers)) h

-- and the other way round, of the objects that this caller has, with the kinds that its items say: what a call leaves a holder with is what the moments say, with that of the call
abbrev pub HoldersHaveWhatIsSaid : (N S : Type 0) → Type 0
HoldersHaveWhatIsSaid N S = (workers : ℕ) (items : List (Item N S)) → IsControlRun (begun workers) items → AreNamed [] items → AreBy [] (begun workers) items →
    (k : ℕ) (h : Holding N) → h.holds 0 ≡ false → ((i : ℕ) → h.holds i ≡ true → has_after i items ≡ Some k) →
    ((i : ℕ) → h.holds i ≡ true → h.kind i ≡ kind_after i (items_by k items)) →
    HasAll (name_of items) (after_all items (begun workers)) h → HasWhatTheySay k (moments_by k (moments_from (begun workers) items)) h
