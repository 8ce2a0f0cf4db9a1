-- What the commands in the mailboxes carry, and that a control plane has it (own choice).
use Rattle.std.specs.Prelude.{◌≤◌, ℕ, List, [], All, flat_map, sum_by}
use Rattle.mailbox.specs.Mail.{Mail}
use Rattle.spec_control.specs.declared.entry.Item.{Item}
use Rattle.spec_control.specs.Names.{name_of, AreNamed}
use Rattle.spec_control.specs.Rows.{of_ends, bind_waits}
use Rattle.spec_control.specs.Control.{Control}
use Rattle.desk.specs.declared.load.Load.{Load}
use Rattle.desk.specs.declared.given.Given.{Given}
use Rattle.desk.specs.Load.{Carries, ReapsAll, given_by}
use Rattle.ctl_state.specs.declared.belongings.Belongings.{Belongings}
use Rattle.ctl_state.specs.declared.command.Command.{Command}
use Rattle.ctl_state.specs.declared.state.State.{State}
use Rattle.ctl_state.specs.Lists.{belongings_at}
use Rattle.ctl_state.specs.Boxes.{mail_at}
use Rattle.ctl_plane.specs.Past.{Past, items_of, control_of, IsHistory}

-- as many ends as are on their way to an object fit in the list of its ends
abbrev pub BindsFit : Control → List Belongings → Type 0
BindsFit c lists = (i : ℕ) → sum_by (of_ends bind_waits i) c.rows.pairs ≤ (belongings_at lists i).ends.spare

module _ {N O I : Type 0} where
  -- the ends of closed sockets that are on their way to the reaper: what is in the root's mailbox brings them
  abbrev pub given_in : List (Mail (Command (Load N O I))) → List (Given N O I)
  given_in boxes = flat_map (λ command. given_by command.load) (mail_at boxes 0).commands

  module _ (out_name : O → N) (in_name : I → N) where
    -- a command carries what it is to bring, with the names that the pipes were given at their making, and a Reap all of its socket
    pub record IsCarried {S : Type 0} (items : List (Item N S)) (c : Control) (command : Command (Load N O I)) : Type 0 where
      pub carries : Carries out_name in_name (name_of items) command.letter.word command.load
      pub reaps : ReapsAll c command.letter.word command.load

    -- each command in a mailbox does
    abbrev pub AreCarried : {S : Type 0} → List (Item N S) → Control → List (Mail (Command (Load N O I))) → Type 0
    AreCarried items c boxes = (m : ℕ) → All (λ command. IsCarried items c command) (mail_at boxes m).commands

    -- what is kept is a history's, the names of pipes are told as they were given, each command carries what it is to bring, and there is room for the ends on their way to it
    pub record IsPlane {S : Type 0} (s : State (Load N O I)) (p : Past (Given N O I) N S) (spare : ℕ) : Type 0 where
      pub history : IsHistory s p spare
      pub named : AreNamed [] (items_of p)
      pub carried : AreCarried (items_of p) (control_of p) s.boxes
      pub binds : BindsFit (control_of p) s.objects.lists
