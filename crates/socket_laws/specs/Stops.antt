-- That a socket's holder is told of its Stop (own choice, after libzmq's `socket_base_t`).
use Rattle.std.specs.Prelude.{◌≡◌, ◌==◌, ℕ, Bool, false}
use Rattle.std.specs.List.{list_any}
use Rattle.spec_control.specs.declared.entry.Item.{Item}
use Rattle.spec_control.specs.Control.{Control}
use Rattle.desk.specs.declared.notice.Notice.{Notice}
use Rattle.desk.specs.declared.notice.Notice.TheVariants.{Plug, Stop, Term, Over}
use Rattle.desk.specs.Desk.{heard_with}
use Rattle.spec_run.specs.OpenSocket.{stops}

-- this object's Stop
abbrev pub stops_it : ℕ → Notice → Bool
stops_it o (Plug to kind options) = false
stops_it o (Stop to) = to.0 == o
stops_it o (Term to) = false
stops_it o (Over to) = false

-- an item stops a socket where its holder is told so in it
abbrev pub StopsAreTold : (N S : Type 0) → Type 0
StopsAreTold N S = (o : ℕ) (item : Item N S) (before now : Control) → list_any (stops_it o) (heard_with item before now) ≡ stops o item
