-- What is kept, with one part of it changed.
use Rattle.std.specs.Prelude.{◌+◌, ℕ, List, [], ◌∷◌, replicate, slice_set, ◌≡◌}
use Rattle.zq_base.specs.Ends.{other_end}
use Rattle.zq_base.specs.declared.ids.EndId.{EndId}
use Rattle.mailbox.specs.Mail.{Mail, no_mail, with_sent}
use Rattle.spec_control.specs.EndpointBook.{Book, empty_book}
use Rattle.spec_control.specs.EndLife.{new_life}
use Rattle.own_tree.specs.declared.row.Row.{Row as TreeRow}
use Rattle.own_tree.specs.Changes.{change, with_bind_sent, with_bind_processed}
use Rattle.ctl_state.specs.declared.belongings.Belongings.{Belongings}
use Rattle.ctl_state.specs.declared.command.Command.{Command}
use Rattle.ctl_state.specs.declared.detail.Detail.{Detail}
use Rattle.ctl_state.specs.declared.pair.Entry.{Entry}
use Rattle.ctl_state.specs.declared.pair.Spot.TheVariants.{At}
use Rattle.ctl_state.specs.declared.state.State.{State}
use Rattle.ctl_state.specs.Boxes.{mail_at, with_mail, PutsBare}
use Rattle.ctl_state.specs.Objects.{ObjectRows, root_kept, with_attached, with_detail, with_lists, with_tree}
use Rattle.ctl_state.specs.Pairs.{no_entry, entry_at, entry_open, owner_at, with_spot}

module _ {L : Type 0} where
  abbrev pub on_objects : (ObjectRows → ObjectRows) → State L → State L
  on_objects f s = record s { objects = f s.objects }

  abbrev pub on_tree : (List TreeRow → List TreeRow) → State L → State L
  on_tree f s = on_objects (λ o. with_tree (f o.tree) o) s

  abbrev pub on_detail : (Detail → Detail) → ℕ → State L → State L
  on_detail f i s = on_objects (with_detail f i) s

  abbrev pub on_lists : (List Belongings → List Belongings) → State L → State L
  on_lists f s = on_objects (λ o. with_lists (f o.lists) o) s

  abbrev pub on_pairs : (List Entry → List Entry) → State L → State L
  on_pairs f s = record s { pairs = f s.pairs }

  abbrev pub on_boxes : (List (Mail (Command L)) → List (Mail (Command L))) → State L → State L
  on_boxes f s = record s { boxes = f s.boxes }

  abbrev pub on_book : (Book → Book) → State L → State L
  on_book f s = record s { book = f s.book }

  -- a command is put into this mailbox
  abbrev pub sent_to : ℕ → Command L → State L → State L
  sent_to k command s = on_boxes (with_mail k (with_sent command (mail_at s.boxes k))) s

  -- a pair is made: this end is attached, and the other's bind is put
  abbrev pub opened : EndId → State L → State L
  opened e s = record s {
    objects =
        let now : ObjectRows = with_attached (owner_at s.pairs e) e s.objects in
        with_tree (change with_bind_sent (owner_at s.pairs (other_end e)) now.tree) now;
    pairs = slice_set s.pairs e.pair.0 (entry_open e.a (entry_at s.pairs e.pair.0));
  }

  -- an end's bind comes, and the end is attached
  abbrev pub bound : EndId → State L → State L
  bound e s = record s {
    objects = with_attached (owner_at s.pairs e) e (with_tree (change with_bind_processed (owner_at s.pairs e) s.objects.tree) s.objects);
    pairs = with_spot e (At new_life) s.pairs;
  }

  -- of what the control state doesn't say, only commands with no load are new
  pub record Tells (old new : State L) : Type 0 where
    pub bare : PutsBare old.boxes new.boxes
    pub lists : new.objects.lists ≡ old.objects.lists

  -- a context at its making
  abbrev pub new_state : (workers : ℕ) → State L
  new_state workers = record {
    workers = workers;
    objects = root_kept (record { 0 = 0 });
    pairs = no_entry ∷ [];
    boxes = replicate (workers + 1) no_mail;
    book = empty_book;
  }
