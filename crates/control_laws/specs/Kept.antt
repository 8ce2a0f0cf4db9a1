-- What is so of the control state after each event of a run (own choice).
use Rattle.std.specs.Prelude.{◌≡◌, ℕ, Bool, true, false, List, Some, All}
use Rattle.std.specs.List.{list_any}
use Rattle.zq_base.specs.declared.endpoint.Endpoint.{Endpoint}
use Rattle.zq_base.specs.declared.ids.EndId.{EndId}
use Rattle.spec_control.specs.declared.book.Binding.{Binding}
use Rattle.spec_control.specs.Register.{Register}
use Rattle.spec_control.specs.Stage.{was_asked}
use Rattle.spec_control.specs.Place.{is_here}
use Rattle.spec_control.specs.Row.{is_socket}
use Rattle.spec_control.specs.Rows.{Rows, obj, pair, end_place}
use Rattle.spec_control.specs.Control.{Control, is_end, end_of}
use Rattle.control_laws.specs.Reached.{IsReached}
use Rattle.control_laws.specs.Prompt.{IsPromptBut, IsPrompt, HasShape, HaveTheirPairs}
use Rattle.control_laws.specs.Mail.{IsDelivered}

-- each end that is there stands in the list of the ends in the order of their attachment
abbrev pub AreListed : Rows → List EndId → Type 0
AreListed s attached = (k : ℕ) (a : Bool) → is_here (end_place (pair s k) a) ≡ true → list_any (is_end (end_of k a)) attached ≡ true

-- a socket that was not asked
pub record IsUnasked (s : Rows) (i : ℕ) : Type 0 where
  pub socket : is_socket (obj s i).kind ≡ true
  pub unasked : was_asked (obj s i).stage ≡ false

-- who holds a name or waits for one was not asked
pub record NamesAreOpen (s : Rows) (names : Register) : Type 0 where
  pub holders : (at : Endpoint) (binding : Binding) → names.held at ≡ Some binding → IsUnasked s binding.holder.0
  pub waiters : All (λ w. IsUnasked s w.waiter.0) names.waiting

-- within an event of object b
pub record KeptBut (b : ℕ) (c : Control) : Type 0 where
  pub reached : IsReached c.rows
  pub shape : HasShape c.rows
  pub prompt : IsPromptBut b c.rows c.output_left
  pub delivered : IsDelivered c.rows c.boxes
  pub listed : AreListed c.rows c.attached
  pub names : NamesAreOpen c.rows c.names
  pub pairs : HaveTheirPairs c.rows

-- after each event
pub record Kept (c : Control) : Type 0 where
  pub reached : IsReached c.rows
  pub shape : HasShape c.rows
  pub prompt : IsPrompt c.rows c.output_left
  pub delivered : IsDelivered c.rows c.boxes
  pub listed : AreListed c.rows c.attached
  pub names : NamesAreOpen c.rows c.names
  pub pairs : HaveTheirPairs c.rows
