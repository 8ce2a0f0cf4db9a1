-- That what is kept goes on standing for a control state.
use Rattle.std.specs.Prelude.{◌≡◌, ◌<◌, ◌⊎◌, ◌++◌, ◌∷◌, [], ℕ, Bool, List, Option, if◌then◌else◌, length, slice_index_or, slice_set}
use Rattle.std.proofs.Common.{arith, sym, ap, ◌∙◌, subst, inl, inr}
use Rattle.std.proofs.lemmas.Bool.{cases_eq, eq-eqb, ne_eqb}
use Rattle.std.proofs.lemmas.List.{get_or-set_same, get_or-set_other, length-set, map-append}
use Rattle.zq_base.specs.declared.ids.ObjId.{ObjId}
use Rattle.mailbox.specs.Mail.{Mail, no_mail, with_sent}
use Rattle.spec_control.specs.declared.letter.Letter.{Letter}
use Rattle.spec_control.specs.declared.letter.Word.{Word}
use Rattle.spec_control.specs.Row.{Row, LinkEvent, link_after}
use Rattle.spec_control.specs.Rows.{obj}
use Rattle.spec_control.specs.Control.{Control, with_value, put, link}
use Rattle.ctl_state.specs.declared.command.Command.{Command}
use Rattle.ctl_state.specs.declared.state.State.{State}
use Rattle.spec_control.specs.Hold.{Hold as HoldSaid}
use Rattle.ctl_state.specs.declared.belongings.Belongings.{Belongings}
use Rattle.ctl_state.specs.Lists.{AreListed}
use Rattle.ctl_state.specs.Boxes.{mail_at, with_mail, letters, AreIn}
use Rattle.ctl_state.specs.Objects.{ObjectRows, kept_row, Links, AreObjects, with_lists}
use Rattle.ctl_state.specs.Stands.{slot_of, letter_for, Stands}
use Rattle.ctl_state.proofs.ReadLemmas.{placed_where}
use Rattle.ctl_state.proofs.ObjectLemmas.{becomes_stand, lists_aside}
use Rattle.ctl_state.specs.Parts.{sent_to}
use Rattle.ctl_state.specs.declared.pair.Entry.{Entry}
use Rattle.own_tree.specs.Rows.{tree_of}

module _ {L : Type 0} where
  -- a mailbox with room is there
  pub roomy : (boxes : List (Mail (Command L))) (k : ℕ) → 0 < (mail_at boxes k).spare → k < length boxes
  roomy boxes k h = placed_where (λ (m : Mail (Command L)). m.spare) boxes k no_mail (λ e. none e)
    where
      none : (mail_at boxes k).spare ≡ 0 → ⊥
      none e = omega (arith, h, e)

  -- the letters of the mailboxes, once one was sent
  pub sent_in : (boxes : List (Mail (Command L))) (f : ℕ → List Letter) (k : ℕ) (command : Command L) → 0 < (mail_at boxes k).spare → AreIn boxes f →
      AreIn (with_mail k (with_sent command (mail_at boxes k)) boxes) (with_value k (f k ++ command.letter ∷ []) f)
  sent_in boxes f k command room h = record { each = λ j. at j (cases_eq j k) }
    where
      now : Mail (Command L)
      now = with_sent command (mail_at boxes k)

      here : letters now ≡ f k ++ command.letter ∷ []
      here = map-append (λ (x : Command L). x.letter) (mail_at boxes k).commands (command ∷ []) ∙ ap (λ (ls : List Letter). ls ++ command.letter ∷ []) (h.each k)

      at : (j : ℕ) → (j ≡ k) ⊎ (j ≡ k → ⊥) → letters (mail_at (with_mail k now boxes) j) ≡ with_value k (f k ++ command.letter ∷ []) f j
      at j (inl same) =
          ap letters (subst (λ (n : ℕ). slice_index_or (slice_set boxes k now) n no_mail ≡ now) (sym same) (get_or-set_same boxes k now no_mail (roomy boxes k room)))
          ∙ here ∙ sym (ap (λ (b : Bool). if b then f k ++ command.letter ∷ [] else f j) (eq-eqb j k same))
      at j (inr other) =
          ap letters (get_or-set_other boxes k j now no_mail other) ∙ h.each j
          ∙ sym (ap (λ (b : Bool). if b then f k ++ command.letter ∷ [] else f j) (ne_eqb j k other))

  -- a command was put
  pub put_stands : (old new : State L) (to : ObjId) (word : Word) (load : Option L) → 0 < (mail_at old.boxes (slot_of old to.0)).spare →
      new.boxes ≡ with_mail (slot_of old to.0) (with_sent (letter_for to word load) (mail_at old.boxes (slot_of old to.0))) old.boxes →
      new.objects ≡ old.objects → new.pairs ≡ old.pairs → new.book ≡ old.book → new.workers ≡ old.workers → (c : Control) → Stands old c → Stands new (put to.0 word c)
  put_stands old new to word load room is objects pairs book workers c h = record {
    objects = subst (λ (o : ObjectRows). AreObjects o c.rows.objects) (sym objects) h.objects;
    pairs = rw pairs h.pairs;
    counted = rw objects h.counted;
    sent = rw objects h.sent;
    boxes = subst (λ (k : ℕ). AreIn new.boxes (with_value k (c.boxes k ++ record { to = to; word = word } ∷ []) c.boxes)) slot
        (rw is (sent_in old.boxes c.boxes (slot_of old to.0) (letter_for to word load) room h.boxes));
    lists = rw objects h.lists;
    slots = rw is (length-set old.boxes (slot_of old to.0) _ ∙ h.slots);
    workers = workers ∙ h.workers;
    names = rw book h.names;
  }
    where
      slot : slot_of old to.0 ≡ (obj c.rows to.0).slot
      slot = sym (ap (λ (r : Row). r.slot) (h.objects.each to.0))

  -- something happened between an object and its owner
  pub link_stands : (event : LinkEvent) (i : ℕ) (old new : State L) → Links event i old.objects new.objects →
      new.boxes ≡ old.boxes → new.pairs ≡ old.pairs → new.book ≡ old.book → new.workers ≡ old.workers → (c : Control) → Stands old c → Stands new (link event i c)
  link_stands event i old new moves boxes pairs book workers c h = record {
    objects = subst (λ (r : Row). AreObjects new.objects (slice_set c.rows.objects i (link_after event r))) (sym (h.objects.each i))
        (becomes_stand i (link_after event (kept_row old.objects i)) old.objects new.objects c.rows.objects moves h.objects);
    pairs = rw pairs h.pairs;
    counted = λ j. moves.counts j ∙ h.counted j;
    sent = λ j. let was = h.sent j in let same = moves.sent j in let many = length-set c.rows.objects i (link_after event (obj c.rows i)) in omega (arith, was, same, many);
    lists = rw moves.lists h.lists;
    boxes = rw boxes h.boxes;
    slots = rw boxes h.slots;
    workers = workers ∙ h.workers;
    names = rw book h.names;
  }

  -- the lists changed, and the rest did not
  pub lists_stand : (old new : State L) (lists : List Belongings) (holds : ℕ → List HoldSaid) → new.objects ≡ with_lists lists old.objects →
      new.pairs ≡ old.pairs → new.boxes ≡ old.boxes → new.book ≡ old.book → new.workers ≡ old.workers →
      (c : Control) → AreListed lists c.rows.pairs c.attached holds → Stands old c → Stands new (record c { holds = holds })
  lists_stand old new lists holds objects pairs boxes book workers c listed h = record {
    objects = rw objects (lists_aside lists old.objects c.rows.objects h.objects);
    pairs = rw pairs h.pairs;
    counted = λ i. rw objects (h.counted i);
    sent = λ i. rw objects (h.sent i);
    lists = rw objects listed;
    boxes = rw boxes h.boxes;
    slots = rw boxes h.slots;
    workers = workers ∙ h.workers;
    names = rw book h.names;
  }

  -- behind a command that was put, all but the mailboxes is as before
  pub sent_links : (event : LinkEvent) (i : ℕ) (objects : ObjectRows) (k : ℕ) (command : Command L) (mid new : State L) → new ≡ sent_to k command mid →
      Links event i objects mid.objects → Links event i objects new.objects
  sent_links event i objects k command mid new is links = subst (λ (o : ObjectRows). Links event i objects o) (sym (ap (λ (s : State L). s.objects) is)) links

  pub sent_shape : (k : ℕ) (command : Command L) (mid new : State L) → new ≡ sent_to k command mid → tree_of new.objects.tree ≡ tree_of mid.objects.tree
  sent_shape k command mid new is = ap (λ (s : State L). tree_of s.objects.tree) is

  -- the objects and the pairs changed
  pub parts_are : (s : State L) (o now : ObjectRows) (p q : List Entry) → o ≡ now → p ≡ q →
      ◌≡◌ {A = State L} (record s { objects = o; pairs = p }) (record s { objects = now; pairs = q })
  parts_are s o now p q objects pairs =
      ap (λ (x : ObjectRows). let y : State L = record s { objects = x; pairs = p } in y) objects
      ∙ ap (λ (x : List Entry). let y : State L = record s { objects = now; pairs = x } in y) pairs
