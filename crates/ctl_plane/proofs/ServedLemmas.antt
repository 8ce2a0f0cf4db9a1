-- What a bind or a connect over tcp needs of a history, and the room that it keeps.
use Rattle.std.specs.Prelude.{◌≡◌, ◌<◌, ◌+◌, ◌==◌, ℕ, cond, length, refl}
use Rattle.std.proofs.Common.{arith, sym, ap, ◌∙◌, subst}
use Rattle.std.proofs.lemmas.List.{length-set, length_push}
use Rattle.zq_base.specs.declared.ids.ObjId.{ObjId}
use Rattle.mailbox.specs.Mail.{Mail, no_mail, with_spare}
use Rattle.spec_control.specs.Rows.{obj}
use Rattle.spec_control.specs.ControlRun.{IsOpenSocket}
use Rattle.control_laws.specs.Kept.{IsUnasked}
use Rattle.control_laws.proofs.JoinLemmas.{open_is, unasked_lives}
use Rattle.control_laws.proofs.SoundLemmas.{socket_there}
use Rattle.ctl_state.specs.declared.command.Command.{Command}
use Rattle.ctl_state.specs.declared.state.State.{State}
use Rattle.ctl_state.specs.Boxes.{mail_at}
use Rattle.ctl_state.specs.Needs.{AreMet}
use Rattle.ctl_state.proofs.ReadLemmas.{pushed_same, read_kept}
use Rattle.ctl_moves.specs.declared.owners.Owners.{Owners}
use Rattle.ctl_moves.specs.Listening.{TakesServed, with_box}
use Rattle.ctl_moves.specs.Room.{with_both, with_more}
use Rattle.ctl_moves.specs.Serving.{HasWorkers, HaveSeats}
use Rattle.ctl_moves.proofs.CapacityLemmas.{capacity, holds_in, set_capacity}
use Rattle.ctl_plane.specs.Past.{Past, control_of, IsHistory}
use Rattle.ctl_plane.proofs.EventLemmas.{kept_past}
use Rattle.ctl_plane.proofs.MakingLemmas.{boxes_few}
use Rattle.ctl_plane.proofs.OwnerLemmas.{box_there}

module _ {L G N S : Type 0} (s : State L) (p : Past G N S) (spare : ℕ) (h : IsHistory s p spare) (socket : ObjId) (is_open : IsOpenSocket (obj (control_of p).rows socket.0)) where
  pub unasked : IsUnasked (control_of p).rows socket.0
  unasked = open_is (control_of p) socket.0 (kept_past p h.run) is_open

  -- an open socket may get a listener or session
  pub takes_served : AreMet s (control_of p) → HasWorkers (control_of p) → TakesServed s (control_of p) socket
  takes_served met workers = record {
    workers = workers;
    there = socket_there (control_of p).rows socket.0 unasked.socket;
    few = let most = h.objects in omega (arith, most);
    box = box_there s (control_of p) (kept_past p h.run) h.stands h.room socket.0 unasked;
    list = met.listed socket.0 (socket_there (control_of p).rows socket.0 unasked.socket);
    takes = record {
      unended = met.unended socket (unasked_lives (obj (control_of p).rows socket.0).stage unasked.unasked);
      few = let many = h.stands.objects.many in let most = h.objects in omega (arith, many, most);
      fits = met.sent_fits socket.0 (let most = h.objects in omega (arith, most)) (let most = h.pairs in omega (arith, most));
    };
    few_boxes = boxes_few s p spare h;
  }

module _ {L : Type 0} (s : State L) (o : Owners) (first last : ℕ) (seats : HaveSeats s o) where
  abbrev first_mail : Mail (Command L)
  first_mail = with_spare ((mail_at s.boxes o.first_slot.0).spare + first) (mail_at s.boxes o.first_slot.0)

  abbrev last_mail : Mail (Command L)
  last_mail = with_spare ((mail_at (with_more o.first_slot.0 first s).boxes o.last_slot.0).spare + last) (mail_at (with_more o.first_slot.0 first s).boxes o.last_slot.0)

  -- the room in each mailbox
  pub served_capacity : (m : ℕ) → capacity (with_box (with_both first last o s)).boxes m ≡ capacity s.boxes m + cond (o.first_slot.0 == m) first 0 + cond (o.last_slot.0 == m) last 0
  served_capacity m =
      let one = set_capacity s.boxes o.first_slot.0 first first_mail seats.first_box (omega arith) m in
      let two = set_capacity (with_more o.first_slot.0 first s).boxes o.last_slot.0 last last_mail (subst (λ (n : ℕ). o.last_slot.0 < n) (sym (length-set s.boxes o.first_slot.0 first_mail)) seats.last_box) (omega arith) m in
      let more = ap holds_in (pushed_same (λ (x : Mail (Command L)). x) (with_both first last o s).boxes no_mail no_mail m refl) in
      omega (arith, one, two, more)

  -- the mailboxes have what they had
  pub served_commands : (m : ℕ) → (mail_at (with_box (with_both first last o s)).boxes m).commands ≡ (mail_at s.boxes m).commands
  served_commands m =
      pushed_same (λ (x : Mail (Command L)). x.commands) (with_both first last o s).boxes no_mail no_mail m refl
      ∙ read_kept (λ (x : Mail (Command L)). x.commands) (with_more o.first_slot.0 first s).boxes o.last_slot.0 m last_mail no_mail refl
      ∙ read_kept (λ (x : Mail (Command L)). x.commands) s.boxes o.first_slot.0 m first_mail no_mail refl

  pub served_many : length (with_box (with_both first last o s)).boxes ≡ length s.boxes + 1
  served_many =
      let more = length_push (with_both first last o s).boxes no_mail in
      let two = length-set (with_more o.first_slot.0 first s).boxes o.last_slot.0 last_mail in
      let one = length-set s.boxes o.first_slot.0 first_mail in
      omega (arith, more, two, one)
