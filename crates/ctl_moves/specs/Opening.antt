-- A pair whose number was drawn is made (own choice, after libzmq's `pipe_t`).
use Rattle.std.specs.Prelude.{◌≡◌, ◌<◌, ◌^◌, ℕ, false, List, Option, length}
use Rattle.mailbox.specs.Mail.{Mail, with_sent}
use Rattle.zq_base.specs.Ends.{other_end}
use Rattle.zq_base.specs.declared.ids.EndId.{EndId}
use Rattle.spec_control.specs.declared.letter.Word.{Word}
use Rattle.spec_control.specs.Stage.{has_ended}
use Rattle.spec_control.specs.Place.{Unmade}
use Rattle.spec_control.specs.Rows.{obj}
use Rattle.spec_control.specs.Control.{Control, open_pair, owner_of, place_of}
use Rattle.ctl_state.specs.declared.command.Command.{Command}
use Rattle.ctl_state.specs.declared.state.State.{State}
use Rattle.ctl_state.specs.Boxes.{mail_at, with_mail}
use Rattle.ctl_state.specs.Listed.{with_last}
use Rattle.ctl_state.specs.Lists.{belongings_at, with_ends}
use Rattle.ctl_state.specs.Stands.{Stands}

module _ {L : Type 0} where
  -- one command was put, with this load, in room that was kept
  pub record PutsOne (word : Word) (load : Option L) (old new : List (Mail (Command L))) : Type 0 where
    pub place : ℕ
    pub command : Command L
    pub word_is : command.letter.word ≡ word
    pub load_is : command.load ≡ load
    pub room : 0 < (mail_at old place).spare
    pub is : new ≡ with_mail place (with_sent command (mail_at old place)) old

  -- a pair of this number is not made yet, and neither owner has ended; there is room for the end in its owner's list, and for the other's bind
  pub record MayOpen (s : State L) (first : EndId) : Type 0 where
    pub control : Control
    pub stands : Stands s control
    pub mine : place_of control first ≡ Unmade
    pub theirs : place_of control (other_end first) ≡ Unmade
    pub lives : has_ended (obj control.rows (owner_of control first)).stage ≡ false
    pub other_lives : has_ended (obj control.rows (owner_of control (other_end first))).stage ≡ false
    pub few_objects : length control.rows.objects < 2 ^ 62
    pub few_pairs : length control.rows.pairs < 2 ^ 30
    pub place : 0 < (belongings_at s.objects.lists (owner_of control first)).ends.spare
    pub room : 0 < (mail_at s.boxes (obj control.rows (owner_of control (other_end first))).slot).spare

  -- it is made, with the bind of the other end put
  pub record Opens (c : Control) (first : EndId) (bind : Word) (load : Option L) (old new : State L) : Type 0 where
    pub stands : Stands new (open_pair first bind c)
    pub puts : PutsOne bind load old.boxes new.boxes
    pub lists : new.objects.lists ≡ with_ends (with_last first) (owner_of c first) old.objects.lists
