-- A listener's link is accepted: a session is made, the number of its pair is drawn, and its socket is told (own choice, after libzmq's `tcp_listener_t`).
use Rattle.std.specs.Prelude.{◌≡◌, ◌<◌, ◌+◌, ◌^◌, ◌==◌, ◌++◌, ◌∷◌, [], ℕ, false, cond, List, Option, length}
use Rattle.zq_base.specs.declared.ids.EndId.{EndId}
use Rattle.zq_base.specs.declared.ids.ObjId.{ObjId}
use Rattle.zq_base.specs.declared.ids.PairId.{PairId}
use Rattle.mailbox.specs.Mail.{Mail}
use Rattle.spec_control.specs.Stage.{has_ended}
use Rattle.spec_control.specs.Rows.{obj}
use Rattle.spec_control.specs.Control.{Control, next_object, next_pair}
use Rattle.spec_control.specs.After.{accepts, owner_or_root}
use Rattle.desk.specs.declared.load.Load.{Load}
use Rattle.ctl_state.specs.declared.command.Command.{Command}
use Rattle.ctl_state.specs.declared.state.State.{State}
use Rattle.ctl_state.specs.Boxes.{mail_at}
use Rattle.ctl_state.specs.Lists.{no_belongings}
use Rattle.ctl_state.specs.Pairs.{entry_drawn}
use Rattle.ctl_state.specs.Parts.{on_pairs}
use Rattle.ctl_state.specs.Stands.{Stands}
use Rattle.ctl_moves.specs.declared.owners.Owners.{Owners}
use Rattle.ctl_moves.specs.Room.{HaveBoxes, with_both}
use Rattle.ctl_moves.specs.Turning.{PutsLoaded}

module _ {L : Type 0} where
  -- the number of a session's pair drawn, with room for all commands that may come of both: of the first owner, which is the session, a Term and two for its end; of the last, its socket, a TermReq, a TermAck, two for its end, and the Own
  abbrev pub with_session_drawn : Owners → State L → State L
  with_session_drawn o s = on_pairs (λ es. es ++ entry_drawn o.first o.last ∷ []) (with_both 3 5 o s)

  -- so it was drawn
  pub record HasSessionDrawn (s : State L) (o : Owners) : Type 0 where
    pub before : State L
    pub boxes : HaveBoxes before o
    pub is : s ≡ with_session_drawn o before

-- the owners of the ends of an accepted session's pair: the next object, which lives where the listener does, and their socket
pub record AreAcceptedOwners (c : Control) (i : ℕ) (o : Owners) : Type 0 where
  pub first : o.first.0 ≡ next_object c
  pub last : owner_or_root (obj c.rows i).owner ≡ o.last.0
  pub first_slot : (obj c.rows i).slot ≡ o.first_slot.0
  pub last_slot : (obj c.rows o.last.0).slot ≡ o.last_slot.0

module _ {L : Type 0} where
  -- one more session may be made by a listener, whose socket has not ended
  pub record MayAccept (s : State L) (i : ℕ) (c : Control) : Type 0 where
    pub there : i < length c.rows.objects
    pub owner_there : owner_or_root (obj c.rows i).owner < length c.rows.objects
    pub unended : has_ended (obj c.rows (owner_or_root (obj c.rows i).owner)).stage ≡ false
    pub box : (obj c.rows i).slot < length s.boxes
    pub owner_box : (obj c.rows (owner_or_root (obj c.rows i).owner)).slot < length s.boxes
    pub few_objects : length c.rows.objects < 2 ^ 32
    pub few_pairs : length c.rows.pairs < 2 ^ 32
    pub few_boxes : length s.boxes < 2 ^ 32

  -- these mailboxes have the same commands, and one is there more; of a listener's and its socket's mailboxes there is as much more room as the session and its pair take
  pub record AreRoomier (c : Control) (i : ℕ) (old new : List (Mail (Command L))) : Type 0 where
    pub commands : (m : ℕ) → (mail_at new m).commands ≡ (mail_at old m).commands
    pub spare : (m : ℕ) → (mail_at new m).spare
        ≡ (mail_at old m).spare + (cond ((obj c.rows i).slot == m) 3 0 + cond ((obj c.rows (owner_or_root (obj c.rows i).owner)).slot == m) 5 0)
    pub many : length new ≡ length old + 1

module _ {N O I : Type 0} (out_name : O → N) (in_name : I → N) where
  -- a session was made and the number of its pair drawn, with room for all that may come of them, and then its socket was told
  pub record Accepts (c : Control) (i : ℕ) (session : ObjId) (pair : PairId) (s t : State (Load N O I)) : Type 0 where
    pub number : session.0 ≡ next_object c
    pub drawn : pair.0 ≡ next_pair c
    pub stands : Stands t (accepts i c)
    pub roomy : List (Mail (Command (Load N O I)))
    pub room : AreRoomier c i s.boxes roomy
    pub puts : (names : EndId → Option N) → PutsLoaded out_name in_name names roomy t.boxes
    pub lists : t.objects.lists ≡ s.objects.lists ++ no_belongings ∷ []
