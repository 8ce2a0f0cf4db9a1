-- Whose a mailbox is (own choice, after libzmq's `ctx_t`): the root has the first, the I/O workers' objects have the next, and each socket has one of its own.
use Rattle.std.specs.Prelude.{◌≡◌, ◌<◌, ◌≤◌, ℕ, true, List, All}
use Rattle.spec_control.specs.declared.object.ObjKind.{ObjKind}
use Rattle.spec_control.specs.declared.object.ObjKind.TheVariants.{Root, Socket, Listener, Session}
use Rattle.spec_control.specs.declared.entry.Item.{Item}
use Rattle.spec_control.specs.Row.{is_socket}
use Rattle.spec_control.specs.Rows.{obj}
use Rattle.spec_control.specs.Control.{Control, begun}
use Rattle.spec_control.specs.ControlRun.{after_all, IsControlRun}

-- the mailboxes that an object of the kind may have, of so many with so many workers
abbrev pub MayHaveBox : (workers slots : ℕ) → ObjKind → ℕ → Type 0
MayHaveBox workers slots Root slot = slot ≡ 0
MayHaveBox workers slots (Socket kind) slot = (workers < slot) × (slot < slots)
MayHaveBox workers slots Listener slot = (0 < slot) × (slot ≤ workers)
MayHaveBox workers slots Session slot = (0 < slot) × (slot ≤ workers)

-- each object has one of its kind's, a socket shares its own with no other object, and those that were closed are sockets
pub record HaveBoxes (c : Control) : Type 0 where
  pub each : (i : ℕ) → MayHaveBox c.workers c.slots (obj c.rows i).kind (obj c.rows i).slot
  pub own : (i j : ℕ) → is_socket (obj c.rows i).kind ≡ true → (obj c.rows i).slot ≡ (obj c.rows j).slot → i ≡ j
  pub closed : All (λ o. is_socket (obj c.rows o.0).kind ≡ true) c.closed

-- after each control run
abbrev pub SocketsHaveTheirBoxes : (N S : Type 0) → Type 0
SocketsHaveTheirBoxes N S = (workers : ℕ) (items : List (Item N S)) → 0 < workers → IsControlRun (begun workers) items →
    HaveBoxes (after_all items (begun workers))
