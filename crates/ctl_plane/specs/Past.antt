-- The events of a control plane in their order, and the control state that they led to (own choice).
use Rattle.std.specs.Prelude.{◌≡◌, ◌<◌, ◌≤◌, ◌+◌, ◌^◌, ℕ, List, [], ◌∷◌, ◌++◌, length, map, replicate}
use Rattle.spec_control.specs.declared.entry.Did.{Did}
use Rattle.spec_control.specs.declared.entry.Item.{Item}
use Rattle.spec_control.specs.declared.entry.Item.TheVariants.{Event}
use Rattle.spec_control.specs.Rows.{obj}
use Rattle.spec_control.specs.Control.{Control, begun, next_object, next_pair}
use Rattle.spec_control.specs.ControlRun.{after_all, IsControlRun}
use Rattle.spec_control.specs.Reply.{most_objects, most_made_pairs}
use Rattle.control_laws.specs.Room.{to_come}
use Rattle.control_laws.specs.History.{entries_left}
use Rattle.mailbox.specs.Mail.{Mail, no_mail, with_spare}
use Rattle.ctl_state.specs.declared.command.Command.{Command}
use Rattle.ctl_state.specs.declared.state.State.{State}
use Rattle.ctl_state.specs.Boxes.{mail_at, with_mail}
use Rattle.ctl_state.specs.Stands.{Stands}

-- how many I/O workers a context has, its control events so far, in order, and the ends of closed sockets that are on their way to the reaper
pub record Past (G N S : Type 0) : Type 0 where
  pub workers : ℕ
  pub events : List (Did N S)
  pub given : List G

module _ {N S : Type 0} where
  -- an event as an item of the one order; whose it is stands there
  abbrev pub as_item : Did N S → Item N S
  as_item did = Event (record { by = 0; did = did })

module _ {G N S : Type 0} where
  -- the events in their one order
  abbrev pub items_of : Past G N S → List (Item N S)
  items_of p = map as_item p.events

  -- the state that the events led to
  abbrev pub control_of : Past G N S → Control
  control_of p = after_all (items_of p) (begun p.workers)

  -- one event more
  abbrev pub with_event : Did N S → Past G N S → Past G N S
  with_event did p = record p { events = p.events ++ did ∷ [] }

  -- these ends of a closed socket more are on their way
  abbrev pub with_given : List G → Past G N S → Past G N S
  with_given gs p = record p { given = p.given ++ gs }

  -- of the ends of closed sockets, these are on their way
  abbrev pub only_given : List G → Past G N S → Past G N S
  only_given gs p = record p { given = gs }

  -- each event fits the state that those before it led to
  abbrev pub IsPast : Past G N S → Type 0
  IsPast p = IsControlRun (begun p.workers) (items_of p)

module _ {L : Type 0} where
  -- the mailboxes of a context at its making: all are empty, and that of the root has room for its Term
  abbrev pub first_boxes : ℕ → List (Mail (Command L))
  first_boxes workers = let empty : List (Mail (Command L)) = replicate (workers + 1) no_mail in with_mail 0 (with_spare ((mail_at empty 0).spare + 1) (mail_at empty 0)) empty

-- what is kept stands for the state that these events led to, with room for all that may still come into each mailbox, and into the history
pub record IsHistory {L G N S : Type 0} (s : State L) (p : Past G N S) (spare : ℕ) : Type 0 where
  pub few : p.workers < 2 ^ 31
  pub run : IsPast p
  pub stands : Stands s (control_of p)
  pub room : (m : ℕ) → to_come (control_of p) m ≤ (mail_at s.boxes m).spare
  pub entries : entries_left (control_of p).rows ≤ spare
  pub root : (obj (control_of p).rows 0).slot ≡ 0
  pub objects : next_object (control_of p) ≤ most_objects
  pub pairs : next_pair (control_of p) ≤ most_made_pairs + 1
  pub boxes : length s.boxes ≤ p.workers + next_object (control_of p)
