-- That a listener's link is accepted: what it needs, and what it does.
use Rattle.std.specs.Prelude.{◌≡◌, ◌<◌, ◌+◌, ◌^◌, ◌==◌, ◌++◌, ◌∷◌, [], ℕ, Bool, cond, List, None, length, refl}
use Rattle.std.proofs.Common.{arith, sym, ap, ◌∙◌, subst, inl, inr}
use Rattle.std.proofs.lemmas.Bool.{cases_eq, eq-eqb, ne_eqb}
use Rattle.std.proofs.lemmas.List.{get_or_append_left, get_or-set_same, get_or-set_other, length-set, length_push}
use Rattle.zq_base.specs.declared.ids.ObjId.{ObjId}
use Rattle.zq_base.specs.declared.ids.PairId.{PairId}
use Rattle.mailbox.specs.Mail.{Mail, no_mail, with_spare}
use Rattle.spec_control.specs.declared.letter.Word.TheVariants.{Own}
use Rattle.spec_control.specs.Stage.{has_ended}
use Rattle.spec_control.specs.Row.{Row, nobody}
use Rattle.spec_control.specs.Rows.{obj}
use Rattle.spec_control.specs.Control.{Control, draws, makes, next_object, put}
use Rattle.spec_control.specs.After.{accepted_row, owner_or_root}
use Rattle.desk.specs.declared.load.Load.{Load}
use Rattle.ctl_state.specs.declared.command.Command.{Command}
use Rattle.ctl_state.specs.declared.detail.Made.{Made}
use Rattle.ctl_state.specs.declared.state.State.{State}
use Rattle.ctl_state.specs.Boxes.{mail_at}
use Rattle.ctl_state.specs.Needs.{AreMet}
use Rattle.ctl_state.specs.Objects.{row_made, with_object, TakesChild}
use Rattle.ctl_state.specs.Parts.{on_boxes, on_objects, sent_to}
use Rattle.ctl_state.specs.Stands.{Stands, letter_for, slot_of}
use Rattle.ctl_state.proofs.ReadLemmas.{read_kept, pushed_same}
use Rattle.ctl_moves.specs.declared.owners.Owners.{Owners}
use Rattle.ctl_moves.specs.Accepting.{Accepts, AreAcceptedOwners, AreRoomier, MayAccept, with_session_drawn}
use Rattle.ctl_moves.specs.Room.{HaveBoxes, with_more}
use Rattle.ctl_moves.proofs.OwnAskingLemmas.{loaded_sent}

-- ---- more room in a mailbox
module _ {L : Type 0} where
  pub more_spares : (s : State L) (k more m : ℕ) → k < length s.boxes → (mail_at (with_more k more s).boxes m).spare ≡ (mail_at s.boxes m).spare + cond (k == m) more 0
  more_spares s k more m there =
      elim (cases_eq m k) [
        | inl same ↦
            let mail = with_spare ((mail_at s.boxes k).spare + more) (mail_at s.boxes k) in
            let on = ap (λ (b : Bool). cond b more 0) (eq-eqb k m (sym same)) in
            let now = ap (λ (n : ℕ). (mail_at (with_more k more s).boxes n).spare) same ∙ ap (λ (x : Mail (Command L)). x.spare) (get_or-set_same s.boxes k mail no_mail there) in
            let was = ap (λ (n : ℕ). (mail_at s.boxes n).spare) same in
            omega (arith, on, now, was)
        | inr other ↦
            let off = ap (λ (b : Bool). cond b more 0) (ne_eqb k m (λ e. other (sym e))) in
            let stays = ap (λ (x : Mail (Command L)). x.spare) (get_or-set_other s.boxes k m (with_spare ((mail_at s.boxes k).spare + more) (mail_at s.boxes k)) no_mail other) in
            omega (arith, off, stays)
      ]

  pub more_commands : (s : State L) (k more m : ℕ) → (mail_at (with_more k more s).boxes m).commands ≡ (mail_at s.boxes m).commands
  more_commands s k more m = read_kept (λ (x : Mail (Command L)). x.commands) s.boxes k m (with_spare ((mail_at s.boxes k).spare + more) (mail_at s.boxes k)) no_mail refl

module _ {L : Type 0} (s : State L) (listener : ObjId) (c : Control) (w : MayAccept s listener.0 c) (stands : Stands s c) (o : Owners) (are : AreAcceptedOwners c listener.0 o) where
  socket_slot : (obj c.rows (owner_or_root (obj c.rows listener.0).owner)).slot ≡ o.last_slot.0
  socket_slot = ap (λ (n : ℕ). (obj c.rows n).slot) are.last ∙ are.last_slot

  pub boxes_there : HaveBoxes s o
  boxes_there = record {
    first = subst (λ (n : ℕ). n < length s.boxes) are.first_slot w.box;
    last = subst (λ (n : ℕ). n < length s.boxes) socket_slot w.owner_box;
  }

  pub few_pairs : length s.pairs < 2 ^ 32
  few_pairs = let few = w.few_pairs in let many = stands.pairs.many in omega (arith, few, many)

  pub takes_child : AreMet s c → TakesChild s.objects o.last
  takes_child met = record {
    unended = met.unended o.last (ap (λ (n : ℕ). has_ended (obj c.rows n).stage) (sym are.last) ∙ w.unended);
    few = (let few = w.few_objects in let many = stands.objects.many in omega (arith, few, many));
    fits = met.sent_fits o.last.0 (let few = w.few_objects in omega (arith, few)) (let few = w.few_pairs in omega (arith, few));
  }

  many_drawn : length (with_session_drawn o s).boxes ≡ length s.boxes
  many_drawn = length-set (with_more o.first_slot.0 3 s).boxes o.last_slot.0 _ ∙ length-set s.boxes o.first_slot.0 _

  pub few_drawn : length (with_session_drawn o s).boxes < 2 ^ 32
  few_drawn = let few = w.few_boxes in let same = many_drawn in omega (arith, few, same)

  -- ---- the session is made
  module _ (made : Made) (t : State L) (row : row_made o.last made ≡ accepted_row listener.0 c) (is : t ≡ on_objects (with_object o.last made) (on_boxes (λ b. b ++ with_spare 0 no_mail ∷ []) (with_session_drawn o s)))
      (now : Stands t (makes (row_made o.last made) (draws o.first.0 o.last.0 c))) where
    abbrev socket : ℕ
    socket = owner_or_root (obj c.rows listener.0).owner

    abbrev then : Control
    then = draws (next_object c) socket (makes (accepted_row listener.0 c) c)

    pub stands_then : Stands t then
    stands_then =
        subst (λ (r : Row). Stands t (draws (next_object c) socket (makes r c))) row
        (subst (λ (n : ℕ). Stands t (draws (next_object c) n (makes (row_made o.last made) c))) (sym are.last)
        (subst (λ (n : ℕ). Stands t (draws n o.last.0 (makes (row_made o.last made) c))) are.first now))

    slot_then : slot_of t o.last.0 ≡ o.last_slot.0
    slot_then =
        sym (ap (λ (r : Row). r.slot) (stands_then.objects.each o.last.0))
        ∙ ap (λ (r : Row). r.slot) (get_or_append_left c.rows.objects (accepted_row listener.0 c ∷ []) nobody o.last.0 (subst (λ (n : ℕ). n < length c.rows.objects) are.last w.owner_there)) ∙ are.last_slot

    boxes_are : t.boxes ≡ (with_session_drawn o s).boxes ++ with_spare 0 no_mail ∷ []
    boxes_are = ap (λ (x : State L). x.boxes) is

    spare_is : (m : ℕ) → (mail_at t.boxes m).spare ≡ (mail_at s.boxes m).spare + (cond (o.first_slot.0 == m) 3 0 + cond (o.last_slot.0 == m) 5 0)
    spare_is m =
        let all = ap (λ (b : List (Mail (Command L))). (mail_at b m).spare) boxes_are ∙ pushed_same (λ (x : Mail (Command L)). x.spare) (with_session_drawn o s).boxes (with_spare 0 no_mail) no_mail m refl in
        let last = more_spares (with_more o.first_slot.0 3 s) o.last_slot.0 5 m (subst (λ (n : ℕ). o.last_slot.0 < n) (sym (length-set s.boxes o.first_slot.0 _)) boxes_there.last) in
        let first = more_spares s o.first_slot.0 3 m boxes_there.first in
        omega (arith, all, last, first)

    pub roomier : AreRoomier c listener.0 s.boxes t.boxes
    roomier = record {
      commands = λ m.
          ap (λ (b : List (Mail (Command L))). (mail_at b m).commands) boxes_are ∙ pushed_same (λ (x : Mail (Command L)). x.commands) (with_session_drawn o s).boxes (with_spare 0 no_mail) no_mail m refl
          ∙ more_commands (with_more o.first_slot.0 3 s) o.last_slot.0 5 m ∙ more_commands s o.first_slot.0 3 m;
      spare = λ m.
          spare_is m
          ∙ ap (λ (n : ℕ). (mail_at s.boxes m).spare + (cond (n == m) 3 0 + cond (o.last_slot.0 == m) 5 0)) (sym are.first_slot)
          ∙ ap (λ (n : ℕ). (mail_at s.boxes m).spare + (cond ((obj c.rows listener.0).slot == m) 3 0 + cond (n == m) 5 0)) (sym socket_slot);
      many = ap (λ (b : List (Mail (Command L))). length b) boxes_are ∙ length_push (with_session_drawn o s).boxes (with_spare 0 no_mail) ∙ ap (λ (n : ℕ). n + 1) many_drawn;
    }

    pub own_room : 0 < (mail_at t.boxes (slot_of t o.last.0)).spare
    own_room =
        subst (λ (n : ℕ). 0 < (mail_at t.boxes n).spare) (sym slot_then)
        (let all = spare_is o.last_slot.0 in let on = ap {B = ℕ} (λ (b : Bool). cond b 5 0) (eq-eqb o.last_slot.0 o.last_slot.0 refl) in omega (arith, all, on))

module _ {N O I : Type 0} (out_name : O → N) (in_name : I → N) (s : State (Load N O I)) (listener : ObjId) (c : Control) (w : MayAccept s listener.0 c) (stands : Stands s c) (o : Owners) (are : AreAcceptedOwners c listener.0 o)
    (made : Made) (t : State (Load N O I)) (row : row_made o.last made ≡ accepted_row listener.0 c) (is : t ≡ on_objects (with_object o.last made) (on_boxes (λ b. b ++ with_spare 0 no_mail ∷ []) (with_session_drawn o s)))
    (now : Stands t (makes (row_made o.last made) (draws o.first.0 o.last.0 c))) where
  -- ---- and its socket is told
  pub accepted : (u : State (Load N O I)) (session : ObjId) (pair : PairId) → session.0 ≡ length s.objects.tree → pair.0 ≡ length s.pairs →
      ((d : Control) → Stands t d → Stands u (put o.last.0 (Own session) d)) → u ≡ sent_to (slot_of t o.last.0) (letter_for o.last (Own session) None) t → Accepts out_name in_name c listener.0 session pair s u
  accepted u session pair number drawn puts sent = record {
    number = number ∙ sym stands.objects.many;
    drawn = drawn ∙ sym stands.pairs.many;
    stands =
        subst (λ (x : ObjId). Stands u (put (owner_or_root (obj c.rows listener.0).owner) (Own x) (then s listener c w stands o are made t row is now))) (ap (λ (n : ℕ). let x : ObjId = record { 0 = n } in x) (number ∙ sym stands.objects.many))
        (subst (λ (n : ℕ). Stands u (put n (Own session) (then s listener c w stands o are made t row is now))) (sym are.last) (puts (then s listener c w stands o are made t row is now) (stands_then s listener c w stands o are made t row is now)));
    roomy = t.boxes;
    room = roomier s listener c w stands o are made t row is now;
    puts = λ names. loaded_sent out_name in_name names t t u (slot_of t o.last.0) (letter_for o.last (Own session) None) (record { carries = refl; no_ends = refl }) refl (own_room s listener c w stands o are made t row is now) sent;
    lists = ap (λ (x : State (Load N O I)). x.objects.lists) sent ∙ ap (λ (x : State (Load N O I)). x.objects.lists) is;
  }
