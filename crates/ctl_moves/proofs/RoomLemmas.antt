-- That a pair's room is kept, and given back.
use Rattle.std.specs.Prelude.{◌≡◌, ◌<◌, ◌≤◌, ◌+◌, ◌-◌, ◌++◌, ◌∷◌, [], ℕ, List, length, slice_set, take, refl}
use Rattle.std.proofs.Common.{arith, sym, ap, ◌∙◌, subst}
use Rattle.std.proofs.lemmas.List.{length-set, length_push, set-set, set-get_or, get_or-set_same, take_at}
use Rattle.mailbox.specs.Mail.{Mail, no_mail, with_spare}
use Rattle.ctl_state.specs.declared.belongings.Belongings.{Belongings}
use Rattle.ctl_state.specs.declared.command.Command.{Command}
use Rattle.ctl_state.specs.declared.pair.Entry.{Entry}
use Rattle.ctl_state.specs.declared.state.State.{State}
use Rattle.ctl_state.specs.Boxes.{mail_at}
use Rattle.ctl_state.specs.Listed.{with_room, without_room}
use Rattle.ctl_state.specs.Lists.{no_belongings, belongings_at, with_ends}
use Rattle.ctl_state.specs.Parts.{on_lists, on_pairs}
use Rattle.ctl_moves.specs.declared.owners.Owners.{Owners}
use Rattle.ctl_moves.specs.Room.{with_more, with_commands, HaveBoxes, HavePlaces, KeepsRoom}

module _ {L : Type 0} where
  -- ---- commands
  pub box_there : (s : State L) (k more j : ℕ) → j < length s.boxes → j < length (with_more k more s).boxes
  box_there s k more j there = subst (λ (n : ℕ). j < n) (sym (length-set s.boxes k _)) there

  more_at : (s : State L) (k more : ℕ) → k < length s.boxes → mail_at (with_more k more s).boxes k ≡ with_spare ((mail_at s.boxes k).spare + more) (mail_at s.boxes k)
  more_at s k more there = get_or-set_same s.boxes k _ no_mail there

  pub more_spare : (s : State L) (k more : ℕ) → k < length s.boxes → more ≤ (mail_at (with_more k more s).boxes k).spare
  more_spare s k more there = let is = ap (λ (m : Mail (Command L)). m.spare) (more_at s k more there) in omega (arith, is)

  abbrev pub have_boxes : (s : State L) (o : Owners) → HavePlaces s o → HaveBoxes s o
  have_boxes s o there = record { first = there.first_box; last = there.last_box }

  -- the mailboxes and lists of a pair's owners are there still, once room for its commands is kept
  pub places_there : (s : State L) (o : Owners) → HavePlaces s o → HavePlaces (with_commands o s) o
  places_there s o there = record {
    first_box = box_there (with_more o.first_slot.0 2 s) o.last_slot.0 3 o.first_slot.0 (box_there s o.first_slot.0 2 o.first_slot.0 there.first_box);
    last_box = box_there (with_more o.first_slot.0 2 s) o.last_slot.0 3 o.last_slot.0 (box_there s o.first_slot.0 2 o.last_slot.0 there.last_box);
    first_list = there.first_list;
    last_list = there.last_list;
  }

  -- ---- places in the lists of ends
  abbrev pub with_place : ℕ → State L → State L
  with_place i s = on_lists (with_ends (with_room 1) i) s

  pub list_there : (s : State L) (i j : ℕ) → j < length s.objects.lists → j < length (with_place i s).objects.lists
  list_there s i j there = subst (λ (n : ℕ). j < n) (sym (length-set s.objects.lists i _)) there

  pub place_spare : (s : State L) (i : ℕ) → i < length s.objects.lists → 1 ≤ (belongings_at (with_place i s).objects.lists i).ends.spare
  place_spare s i there = omega (arith, is)
    where
      was : Belongings
      was = belongings_at s.objects.lists i

      is : (belongings_at (with_place i s).objects.lists i).ends.spare ≡ was.ends.spare + 1
      is = ap (λ (b : Belongings). b.ends.spare) (get_or-set_same s.objects.lists i (record was { ends = with_room 1 was.ends }) no_belongings there)

  pub place_back : (s : State L) (i : ℕ) → i < length s.objects.lists → on_lists (with_ends (without_room 1) i) (with_place i s) ≡ s
  place_back s i there = ap (λ (l : List Belongings). on_lists (λ _. l) s) back
    where
      was : Belongings
      was = belongings_at s.objects.lists i

      more : Belongings
      more = record was { ends = with_room 1 was.ends }

      back : with_ends (without_room 1) i (with_ends (with_room 1) i s.objects.lists) ≡ s.objects.lists
      back =
          set-set s.objects.lists i more _
          ∙ ap (λ (b : Belongings). slice_set s.objects.lists i (record b { ends = without_room 1 b.ends })) (get_or-set_same s.objects.lists i more no_belongings there)
          ∙ ap (λ (n : ℕ). slice_set s.objects.lists i (record was { ends = record was.ends { spare = n } })) (let e : was.ends.spare + 1 - 1 ≡ was.ends.spare = omega arith in e)
          ∙ set-get_or s.objects.lists i no_belongings

  pub places_back : (old mid now last : State L) (i : ℕ) → i < length old.objects.lists → mid ≡ on_lists (with_ends (with_room 1) i) old → now ≡ mid → last ≡ on_lists (with_ends (without_room 1) i) now → last ≡ old
  places_back old mid now last i there kept same given = given ∙ ap (on_lists (with_ends (without_room 1) i)) (same ∙ kept) ∙ place_back old i there

  -- ---- both
  -- a pair's places that were given back
  pub room_left : (o : Owners) (s mid last : State L) (w : KeepsRoom s o) → mid ≡ on_lists (with_ends (without_room 1) o.last.0) s → last ≡ on_lists (with_ends (without_room 1) o.first.0) mid → last ≡ with_commands o w.before
  room_left o s mid last w first second =
      places_back (with_commands o w.before) mid mid last o.first.0 w.places.first_list
      (places_back (with_place o.first.0 (with_commands o w.before)) s s mid o.last.0 (list_there (with_commands o w.before) o.first.0 o.last.0 w.places.last_list) w.is refl first) refl second

  -- ---- a pair's number
  pub undrawn : (s : State L) (e : Entry) → on_pairs (take (length s.pairs)) (on_pairs (λ es. es ++ e ∷ []) s) ≡ s
  undrawn s e = ap (λ (es : List Entry). on_pairs (λ _. es) s) (take_at s.pairs (e ∷ []) (length s.pairs) refl)

  pub undrawn_at : (s t now : State L) (e : Entry) (n : ℕ) → t ≡ on_pairs (λ es. es ++ e ∷ []) s → n + 1 ≡ length t.pairs → now ≡ on_pairs (take n) t → now ≡ s
  undrawn_at s t now e n drawn last is =
      is ∙ ap (on_pairs (take n)) drawn ∙ ap (λ (m : ℕ). on_pairs (take m) (on_pairs (λ es. es ++ e ∷ []) s)) many ∙ undrawn s e
    where
      many : n ≡ length s.pairs
      many = let all = ap (λ (x : State L). length x.pairs) drawn in let push = length_push s.pairs e in omega (arith, last, all, push)
