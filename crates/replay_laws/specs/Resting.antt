-- What a reaper with nothing to take says of the root (zmq_ctx_term(3); own choice, after libzmq's `reaper_t`).
use Rattle.std.specs.Prelude.{◌≡◌, ◌==◌, ℕ, true, List}
use Rattle.std.specs.List.{list_all, list_any}
use Rattle.spec_control.specs.declared.entry.Item.{Item}
use Rattle.spec_control.specs.declared.entry.SeenEmpty.TheVariants.{Reapers}
use Rattle.spec_control.specs.Stage.{has_ended}
use Rattle.spec_control.specs.Row.{is_socket}
use Rattle.spec_control.specs.Rows.{obj}
use Rattle.spec_control.specs.Control.{Control, begun}
use Rattle.spec_control.specs.Reply.{root_asked}
use Rattle.spec_control.specs.ControlRun.{AreEmpty, after_all, IsControlRun}
use Rattle.replay_laws.specs.Local.{is_local_item}

-- the socket of this number was closed
abbrev pub IsClosed : Control → ℕ → Type 0
IsClosed c i = list_any (λ o. o.0 == i) c.closed ≡ true

-- each socket was closed
abbrev pub AllAreClosed : Control → Type 0
AllAreClosed c = (i : ℕ) → is_socket (obj c.rows i).kind ≡ true → IsClosed c i

-- where nothing was asked over tcp, each socket is closed, the root was asked and the reaper's mailboxes are empty, the root has ended
abbrev pub RestingReapersHaveEnded : (N S : Type 0) → Type 0
RestingReapersHaveEnded N S = (items : List (Item N S)) → IsControlRun (begun 1) items → list_all is_local_item items ≡ true →
    let c = after_all items (begun 1) in root_asked c ≡ true → AllAreClosed c → AreEmpty c Reapers → has_ended (obj c.rows 0).stage ≡ true
