-- What is so of an object whose Plug is on its way (own choice, after libzmq's `own_t`).
use Rattle.std.specs.Prelude.{◌≡◌, ℕ, false, List, []}
use Rattle.spec_control.specs.declared.entry.Item.{Item}
use Rattle.spec_control.specs.Row.{is_socket}
use Rattle.spec_control.specs.Rows.{obj}
use Rattle.spec_control.specs.Control.{Control, begun}
use Rattle.spec_control.specs.ControlRun.{after_all, IsControlRun}
use Rattle.desk.specs.Lent.{here_ends}

-- an object is a listener or a session, and no end of it is there
pub record HasNoEndYet (c : Control) (i : ℕ) : Type 0 where
  pub no_socket : is_socket (obj c.rows i).kind ≡ false
  pub none : here_ends c.rows.pairs c.attached i ≡ []

-- in each control run, until its Plug comes
abbrev pub NoEndBeforePlug : (N S : Type 0) → Type 0
NoEndBeforePlug N S = (workers : ℕ) (items : List (Item N S)) → IsControlRun (begun workers) items → (i : ℕ) →
    (obj (after_all items (begun workers)).rows i).plugged ≡ false → HasNoEndYet (after_all items (begun workers)) i
