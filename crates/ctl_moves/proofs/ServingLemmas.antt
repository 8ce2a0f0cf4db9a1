-- That there is room for what is put when a listener or a session is made.
use Rattle.std.specs.Prelude.{◌≡◌, ◌<◌, ◌≤◌, ◌+◌, ◌++◌, ◌∷◌, [], ℕ, List, Option, None, length, refl}
use Rattle.std.proofs.Common.{arith, sym, ap, ◌∙◌, subst, mod-lt}
use Rattle.std.proofs.lemmas.List.{length-set, get_or_push, get_or_append_left}
use Rattle.zq_base.specs.declared.ids.EndId.{EndId}
use Rattle.zq_base.specs.declared.ids.ObjId.{ObjId}
use Rattle.mailbox.specs.Mail.{Mail, no_mail, with_sent, with_spare}
use Rattle.spec_control.specs.declared.letter.Word.TheVariants.{Own}
use Rattle.spec_control.specs.Row.{Row, nobody}
use Rattle.spec_control.specs.Rows.{obj}
use Rattle.spec_control.specs.Control.{Control, next_object}
use Rattle.desk.specs.declared.load.Load.{Load}
use Rattle.ctl_state.specs.declared.belongings.Belongings.{Belongings}
use Rattle.ctl_state.specs.declared.command.Command.{Command}
use Rattle.ctl_state.specs.declared.hold.Hold.{Hold}
use Rattle.ctl_state.specs.declared.state.State.{State}
use Rattle.ctl_state.specs.Boxes.{mail_at, with_mail}
use Rattle.ctl_state.specs.Listed.{with_last}
use Rattle.ctl_state.specs.Lists.{with_holds}
use Rattle.ctl_state.specs.Parts.{on_lists, sent_to}
use Rattle.ctl_state.specs.Stands.{Stands, letter_for, slot_of}
use Rattle.ctl_state.proofs.ReadLemmas.{pushed_same, read_more}
use Rattle.ctl_moves.specs.declared.owners.Owners.{Owners}
use Rattle.ctl_moves.specs.Listening.{with_box}
use Rattle.ctl_moves.specs.Naming.{SameEndLists}
use Rattle.ctl_moves.specs.Room.{with_both, with_more}
use Rattle.ctl_moves.specs.Serving.{AreServed, HasWorkers, HaveSeats, with_served}
use Rattle.ctl_moves.specs.Turning.{PutsLoaded}
use Rattle.ctl_moves.proofs.GreetingLemmas.{sent_spare}
use Rattle.ctl_moves.proofs.MailLemmas.{puts_sent}
use Rattle.ctl_moves.proofs.NameLemmas.{holds_aside}
use Rattle.ctl_moves.proofs.RoomLemmas.{box_there, more_spare}

-- the worker that gets the next object has a mailbox
pub worker_there : {L : Type 0} (s : State L) (c : Control) (socket : ObjId) (o : Owners) → Stands s c → HasWorkers c → AreServed c socket o → o.last_slot.0 < length s.boxes
worker_there s c socket o h workers served =
    let many = h.slots in
    let there = workers.there in
    let is = served.last_slot in
    let less = mod-lt (next_object c) workers.some in
    omega (arith, many, there, is, less)

-- the socket's lists are there, once its room is kept
pub served_list : {L : Type 0} (s : State L) (o : Owners) (first last : ℕ) → o.first.0 < length s.objects.lists → o.first.0 < length (with_served first last o s).objects.lists
served_list s o first last there = subst (λ (n : ℕ). o.first.0 < n) (sym (length-set s.objects.lists o.first.0 _)) there

-- an object's mailbox, as it is kept and by the control state
pub slot_is : {L : Type 0} (s : State L) (c : Control) → Stands s c → (i : ℕ) → slot_of s i ≡ (obj c.rows i).slot
slot_is s c h i = sym (ap (λ (r : Row). r.slot) (h.objects.each i))

-- the mailboxes of the objects that there were, and of the one that was made
pub slot_before : (objects : List Row) (row : Row) (i : ℕ) → i < length objects → (obj (record { objects = objects ++ row ∷ []; pairs = [] }) i).slot ≡ (obj (record { objects = objects; pairs = [] }) i).slot
slot_before objects row i there = ap (λ (r : Row). r.slot) (get_or_append_left objects (row ∷ []) nobody i there)

pub slot_made : (objects : List Row) (row : Row) (i : ℕ) → i ≡ length objects → (obj (record { objects = objects ++ row ∷ []; pairs = [] }) i).slot ≡ row.slot
slot_made objects row i is = ap (λ (r : Row). r.slot) (get_or_push objects row nobody i (sym is))

module _ {L : Type 0} (s : State L) (o : Owners) (first last : ℕ) (seats : HaveSeats s o) where
  abbrev base : List (Mail (Command L))
  base = (with_box (with_both first last o s)).boxes

  pushed : (k : ℕ) → mail_at (with_box (with_both first last o s)).boxes k ≡ mail_at (with_both first last o s).boxes k
  pushed k = pushed_same (λ (x : Mail (Command L)). x) (with_both first last o s).boxes no_mail no_mail k refl

  pub last_spare : last ≤ (mail_at (with_box (with_both first last o s)).boxes o.last_slot.0).spare
  last_spare =
      let is = ap (λ (x : Mail (Command L)). x.spare) (pushed o.last_slot.0) in
      let more = more_spare (with_more o.first_slot.0 first s) o.last_slot.0 last (box_there s o.first_slot.0 first o.last_slot.0 seats.last_box) in
      omega (arith, is, more)

  pub first_spare : first ≤ (mail_at (with_box (with_both first last o s)).boxes o.first_slot.0).spare
  first_spare =
      let is = ap (λ (x : Mail (Command L)). x.spare) (pushed o.first_slot.0) in
      let mine = more_spare s o.first_slot.0 first seats.first_box in
      let more = read_more (λ (x : Mail (Command L)). x.spare) (with_more o.first_slot.0 first s).boxes o.last_slot.0 o.first_slot.0 last_mail no_mail last (box_there s o.first_slot.0 first o.last_slot.0 seats.last_box) refl in
      omega (arith, is, mine, more)
    where
      last_mail : Mail (Command L)
      last_mail = with_spare ((mail_at (with_more o.first_slot.0 first s).boxes o.last_slot.0).spare + last) (mail_at (with_more o.first_slot.0 first s).boxes o.last_slot.0)

  -- what was made has its mailbox, and the socket too
  module _ (t : State L) (boxes : t.boxes ≡ (with_box (with_both first last o s)).boxes) (mine : slot_of t o.first.0 ≡ o.first_slot.0) where
    pub own_room : 0 < first → 0 < (mail_at t.boxes (slot_of t o.first.0)).spare
    own_room some =
        subst (λ (n : ℕ). 0 < (mail_at t.boxes n).spare) (sym mine)
        (subst (λ (b : List (Mail (Command L))). 0 < (mail_at b o.first_slot.0).spare) (sym boxes) (let more = first_spare in omega (arith, more, some)))

module _ {N O I : Type 0} (s : State (Load N O I)) (o : Owners) (first last : ℕ) (seats : HaveSeats s o) (t : State (Load N O I)) (boxes : t.boxes ≡ (with_box (with_both first last o s)).boxes) (mine : slot_of t o.first.0 ≡ o.first_slot.0) (some : 0 < first)
    (child : ObjId) (theirs : slot_of t child.0 ≡ o.last_slot.0) (u : State (Load N O I)) (hold : Hold)
    (is : u ≡ sent_to (slot_of t o.first.0) (letter_for o.first (Own child) None) (on_lists (with_holds (with_last hold) o.first.0) t)) where
  abbrev own : Command (Load N O I)
  own = letter_for o.first (Own child) None

  boxes_now : u.boxes ≡ with_mail (slot_of t o.first.0) (with_sent (letter_for o.first (Own child) None) (mail_at t.boxes (slot_of t o.first.0))) t.boxes
  boxes_now = ap (λ (x : State (Load N O I)). x.boxes) is

  room : 0 < (mail_at t.boxes (slot_of t o.first.0)).spare
  room = own_room s o first last seats t boxes mine some

  pub own_puts : (out_name : O → N) (in_name : I → N) (names : EndId → Option N) → PutsLoaded out_name in_name names (with_box (with_both first last o s)).boxes u.boxes
  own_puts out_name in_name names =
      subst (λ (b : List (Mail (Command (Load N O I)))). PutsLoaded out_name in_name names b u.boxes) boxes
      (subst (λ (b : List (Mail (Command (Load N O I)))). PutsLoaded out_name in_name names t.boxes b) (sym boxes_now)
      (puts_sent out_name in_name names t.boxes (slot_of t o.first.0) own (record { carries = refl; no_ends = refl }) room))

  -- of the room at the worker one place is gone at the most
  pub last_left : last ≤ (mail_at u.boxes o.last_slot.0).spare + 1
  last_left =
      let had = last_spare s o first last seats in
      let was = ap (λ (b : List (Mail (Command (Load N O I)))). (mail_at b o.last_slot.0).spare) boxes in
      let now = ap (λ (b : List (Mail (Command (Load N O I)))). (mail_at b o.last_slot.0).spare) boxes_now in
      let sent = sent_spare t.boxes (slot_of t o.first.0) own room o.last_slot.0 in
      omega (arith, had, was, now, sent)

  pub same_slot : (i : ℕ) → slot_of u i ≡ slot_of t i
  same_slot i = ap (λ (x : State (Load N O I)). slot_of x i) is

  pub child_room : (n : ℕ) → n + 1 ≤ last → n ≤ (mail_at u.boxes (slot_of u child.0)).spare
  child_room n less = subst (λ (k : ℕ). n ≤ (mail_at u.boxes k).spare) (sym (same_slot child.0 ∙ theirs)) (let left = last_left in omega (arith, left, less))

  pub own_ends : SameEndLists t.objects.lists u.objects.lists
  own_ends = subst (λ (ls : List Belongings). SameEndLists t.objects.lists ls) (sym (ap (λ (x : State (Load N O I)). x.objects.lists) is)) (holds_aside (with_last hold) o.first.0 t.objects.lists)
