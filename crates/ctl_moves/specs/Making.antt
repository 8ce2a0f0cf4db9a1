-- What the making of a socket needs, and what it leaves (own choice).
use Rattle.std.specs.Prelude.{◌≡◌, ◌<◌, ◌+◌, ◌^◌, ◌++◌, ◌∷◌, [], length}
use Rattle.mailbox.specs.Mail.{no_mail, with_spare}
use Rattle.spec_control.specs.Control.{makes}
use Rattle.ctl_state.specs.declared.detail.Made.{Made}
use Rattle.ctl_state.specs.declared.state.State.{State}
use Rattle.ctl_state.specs.Boxes.{mail_at, with_mail}
use Rattle.ctl_state.specs.Lists.{no_belongings}
use Rattle.ctl_state.specs.Objects.{row_made, TakesChild}
use Rattle.ctl_state.specs.Stands.{Updates}

module _ {L : Type 0} where
  -- one more socket may be made, with a mailbox of its own
  pub record TakesSocket (s : State L) : Type 0 where
    pub takes : TakesChild s.objects (record { 0 = 0 })
    pub few : length s.boxes < 2 ^ 32
    pub some : 0 < length s.boxes

  -- a socket was made, with room for its Stop and its Term in its own mailbox, and for its Reap and its TermAck in the root's
  pub record MakesSocket (made : Made) (old new : State L) : Type 0 where
    pub stands : Updates (makes (row_made (record { 0 = 0 }) made)) old new
    pub lists : new.objects.lists ≡ old.objects.lists ++ no_belongings ∷ []
    pub boxes : new.boxes ≡ with_mail 0 (with_spare ((mail_at old.boxes 0).spare + 2) (mail_at old.boxes 0)) old.boxes ++ with_spare 2 no_mail ∷ []
