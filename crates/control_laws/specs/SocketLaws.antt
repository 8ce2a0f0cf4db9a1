-- What a caller's own items say of its sockets is so in the control state (own choice).
use Rattle.std.specs.Prelude.{◌≡◌, ◌<◌, ℕ, List, [], Some, is_some}
use Rattle.zq_base.specs.declared.kind.Kind.{Kind}
use Rattle.spec_control.specs.declared.entry.Item.{Item}
use Rattle.spec_control.specs.declared.object.ObjKind.TheVariants.{Socket}
use Rattle.spec_control.specs.Rows.{obj}
use Rattle.spec_control.specs.Control.{begun, next_object}
use Rattle.spec_control.specs.ControlRun.{IsControlRun, IsOpenSocket, after_all}
use Rattle.spec_control.specs.Held.{items_by}
use Rattle.spec_control.specs.Has.{has_after, AreBy}
use Rattle.spec_control.specs.OwnAsks.{known_after}
use Rattle.desk.specs.Kinds.{kind_after}

-- caller k has object i, an open socket of this kind
pub record HasOpen {N S : Type 0} (workers : ℕ) (items : List (Item N S)) (k i : ℕ) (kind : Kind) : Type 0 where
  pub has : has_after i items ≡ Some k
  pub kind_is : (obj (after_all items (begun workers)).rows i).kind ≡ Socket kind
  pub open_socket : IsOpenSocket (obj (after_all items (begun workers)).rows i)

-- in a control run by callers that may make it
abbrev pub SocketsAreOpen : (N S : Type 0) → Type 0
SocketsAreOpen N S = (workers : ℕ) (items : List (Item N S)) → IsControlRun (begun workers) items → AreBy [] (begun workers) items →
    (k i : ℕ) (kind : Kind) → kind_after i (items_by k items) ≡ Some kind → HasOpen workers items k i kind

abbrev pub KnownSocketsHaveKinds : (N S : Type 0) → Type 0
KnownSocketsHaveKinds N S = (items : List (Item N S)) (i : ℕ) → (known_after i items).open_socket ≡ is_some (kind_after i items)

-- who has an object has one that was made
abbrev pub HadObjectsAreThere : (N S : Type 0) → Type 0
HadObjectsAreThere N S = (workers : ℕ) (items : List (Item N S)) → IsControlRun (begun workers) items → (i k : ℕ) → has_after i items ≡ Some k → i < next_object (after_all items (begun workers))
