-- That a bind over tcp makes its listener.
use Rattle.std.specs.Prelude.{◌≡◌, ◌<◌, ◌++◌, ◌∷◌, [], ℕ, List, Some, None, length, refl}
use Rattle.std.proofs.Common.{arith, sym, ap, ◌∙◌, subst}
use Rattle.zq_base.specs.declared.endpoint.Address.{Address}
use Rattle.zq_base.specs.declared.endpoint.Endpoint.TheVariants.{Tcp}
use Rattle.zq_base.specs.declared.ids.ObjId.{ObjId}
use Rattle.mailbox.specs.Mail.{Mail}
use Rattle.spec_control.specs.declared.letter.Word.TheVariants.{Own, Plug}
use Rattle.spec_control.specs.Hold.{Bound as IsBound}
use Rattle.spec_control.specs.Register.{with_holder}
use Rattle.spec_control.specs.Row.{Row}
use Rattle.spec_control.specs.Control.{Control, id, makes, next_object, put}
use Rattle.spec_control.specs.After.{binding_by, listener_row, with_hold}
use Rattle.desk.specs.declared.load.Load.{Load}
use Rattle.desk.specs.declared.load.Load.TheVariants.{Plug as IsPlug}
use Rattle.ctl_state.specs.declared.belongings.Belongings.{Belongings}
use Rattle.ctl_state.specs.declared.command.Command.{Command}
use Rattle.ctl_state.specs.declared.detail.Made.{Made}
use Rattle.ctl_state.specs.declared.hold.Hold.{Hold}
use Rattle.ctl_state.specs.declared.state.State.{State}
use Rattle.ctl_state.specs.Boxes.{mail_at}
use Rattle.ctl_state.specs.Listed.{with_last, with_room}
use Rattle.ctl_state.specs.Lists.{no_belongings, with_holds}
use Rattle.ctl_state.specs.Objects.{row_made}
use Rattle.ctl_state.specs.Parts.{on_lists, sent_to}
use Rattle.ctl_state.specs.Stands.{Stands, Updates, letter_for, names_by, slot_of}
use Rattle.ctl_state.proofs.ReadLemmas.{pushed_same}
use Rattle.ctl_moves.specs.declared.owners.Owners.{Owners}
use Rattle.ctl_moves.specs.Listening.{Listens, MakesListener, MayListen, with_box}
use Rattle.ctl_moves.specs.Naming.{SameEndLists}
use Rattle.ctl_moves.specs.Room.{with_both}
use Rattle.ctl_moves.specs.Serving.{HaveSeats, with_served}
use Rattle.ctl_moves.specs.Turning.{PutsLoaded}
use Rattle.ctl_moves.proofs.MailLemmas.{puts_on, puts_sent}
use Rattle.ctl_moves.proofs.NameLemmas.{holds_aside, lists_on}
use Rattle.ctl_moves.proofs.ServingLemmas.{child_room, own_ends, own_puts, own_room, slot_before, slot_is, slot_made, worker_there}

-- a list more leaves those of the ends that there are
pub pushed_ends : (lists : List Belongings) → SameEndLists lists (lists ++ no_belongings ∷ [])
pushed_ends lists i = pushed_same (λ (b : Belongings). b.ends) lists no_belongings no_belongings i refl

module _ {N O I : Type 0} (s : State (Load N O I)) (o : Owners) (at : Address) (w : MayListen s o at) where
  abbrev pub seats : HaveSeats s o
  seats = record {
    first_box = subst (λ (n : ℕ). n < length s.boxes) w.served.first_slot w.takes.box;
    last_box = worker_there s w.control o.first o w.stands w.takes.workers w.served;
    list = w.takes.list;
  }

  module _ (made : Made) (row_is : row_made o.first made ≡ listener_row o.first.0 w.control) (mid t : State (Load N O I)) (child : ObjId) (kept : mid ≡ with_served 3 2 o s) (moves : Stands mid w.control) (makes_it : MakesListener o.first (Tcp at) made mid t) (number : child.0 ≡ length mid.objects.tree) where
    abbrev c : Control
    c = w.control

    abbrev now : Control
    now = makes (row_made o.first made) (names_by (with_holder (Tcp at) (binding_by o.first.0 c)) c)

    number_is : child.0 ≡ next_object c
    number_is = number ∙ sym moves.objects.many

    stands : Stands t (makes (row_made o.first made) (names_by (with_holder (Tcp at) (binding_by o.first.0 c)) c))
    stands = makes_it.stands c moves

    boxes : t.boxes ≡ (with_box (with_both 3 2 o s)).boxes
    boxes = makes_it.boxes ∙ ap (λ (x : State (Load N O I)). (with_box x).boxes) kept

    mine : slot_of t o.first.0 ≡ o.first_slot.0
    mine = slot_is t now stands o.first.0 ∙ slot_before c.rows.objects (row_made o.first made) o.first.0 w.takes.there ∙ w.served.first_slot

    theirs : slot_of t child.0 ≡ o.last_slot.0
    theirs = slot_is t now stands child.0 ∙ slot_made c.rows.objects (row_made o.first made) child.0 number_is ∙ ap (λ (r : Row). r.slot) row_is ∙ w.served.last_slot

    pub mail : 0 < (mail_at t.boxes (slot_of t o.first.0)).spare
    mail = own_room s o 3 2 seats t boxes mine (omega arith)

    module _ (u : State (Load N O I)) (hold : Hold) (is : u ≡ sent_to (slot_of t o.first.0) (letter_for o.first (Own child) None) (on_lists (with_holds (with_last hold) o.first.0) t)) where
      pub plug_room : 0 < (mail_at u.boxes (slot_of u child.0)).spare
      plug_room = let one = child_room s o 3 2 seats t boxes mine (omega arith) child theirs u hold is 1 (omega arith) in omega (arith, one)

      pub listens : (v : State (Load N O I)) →
          Stands u (put o.first.0 (Own child) (with_hold o.first.0 (IsBound (Tcp at) (Some child.0)) (makes (row_made o.first made) (names_by (with_holder (Tcp at) (binding_by o.first.0 c)) c)))) →
          Updates (put child.0 (Plug None)) u v → v ≡ sent_to (slot_of u child.0) (letter_for child (Plug None) (Some (IsPlug at None))) u → Listens c o at child s v
      listens v held plugs next = record {
        number = number_is;
        stands = λ h. subst (λ (k : ℕ). Stands v (binds_with k (listener_row o.first.0 c))) number_is (subst (λ (r : Row). Stands v (binds_with child.0 r)) row_is (plugs _ held));
        puts = λ out_name in_name names. puts_on out_name in_name names _ u.boxes v.boxes (own_puts s o 3 2 seats t boxes mine (omega arith) child theirs u hold is out_name in_name names)
            (subst (λ (b : List (Mail (Command (Load N O I)))). PutsLoaded out_name in_name names u.boxes b) (sym (ap (λ (x : State (Load N O I)). x.boxes) next))
            (puts_sent out_name in_name names u.boxes (slot_of u child.0) (letter_for child (Plug None) (Some (IsPlug at None))) (record { carries = tt; no_ends = refl }) plug_room));
        ends = lists_on s.objects.lists t.objects.lists v.objects.lists
            (lists_on s.objects.lists mid.objects.lists t.objects.lists
            (subst (λ (ls : List Belongings). SameEndLists s.objects.lists ls) (sym (ap (λ (x : State (Load N O I)). x.objects.lists) kept)) (holds_aside (with_room 1) o.first.0 s.objects.lists))
            (subst (λ (ls : List Belongings). SameEndLists mid.objects.lists ls) (sym makes_it.lists) (pushed_ends mid.objects.lists)))
            (subst (λ (ls : List Belongings). SameEndLists t.objects.lists ls) (sym (ap (λ (x : State (Load N O I)). x.objects.lists) next)) (own_ends s o 3 2 seats t boxes mine (omega arith) child theirs u hold is));
      }
        where
          binds_with : ℕ → Row → Control
          binds_with k r = put k (Plug None) (put o.first.0 (Own (id k)) (with_hold o.first.0 (IsBound (Tcp at) (Some k)) (makes r (names_by (with_holder (Tcp at) (binding_by o.first.0 c)) c))))
