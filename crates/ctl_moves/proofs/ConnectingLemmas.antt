-- That a connect makes its pair.
use Rattle.std.specs.Prelude.{◌≡◌, ◌<◌, ◌≤◌, ◌+◌, ◌-◌, ◌^◌, ◌==◌, ◌++◌, ◌∷◌, [], ℕ, Bool, true, false, cond, List, Some, None, length, slice_set, refl}
use Rattle.std.proofs.Common.{arith, sym, ap, ◌∙◌, subst}
use Rattle.std.proofs.lemmas.List.{length-set, length_push, get_or_past, get_or-set_same, set-set, set-get_or}
use Rattle.std.proofs.lemmas.Bool.{eq-eqb}
use Rattle.zq_base.specs.Ends.{other_end}
use Rattle.zq_base.specs.declared.endpoint.Endpoint.{Endpoint}
use Rattle.zq_base.specs.declared.ids.EndId.{EndId}
use Rattle.zq_base.specs.declared.ids.PairId.{PairId}
use Rattle.mailbox.specs.Mail.{Mail}
use Rattle.spec_control.specs.declared.letter.Word.TheVariants.{PipeBind}
use Rattle.spec_control.specs.Hold.{Joined as IsJoined}
use Rattle.spec_control.specs.Place.{Place, Unmade, At}
use Rattle.spec_control.specs.Stage.{was_asked, has_ended}
use Rattle.spec_control.specs.Rows.{PairRow, obj}
use Rattle.spec_control.specs.After.{with_hold}
use Rattle.spec_control.specs.Control.{Control, draws, end_of, greet, is_end, next_pair, open_pair, owner_of, place_of}
use Rattle.control_laws.proofs.JoinLemmas.{unasked_lives}
use Rattle.control_laws.proofs.AskLemmas.{same_end}
use Rattle.desk.specs.declared.load.Load.{Load}
use Rattle.desk.specs.Holding.{HasNowhere, Holding}
use Rattle.desk.specs.Turns.{TurnsBy, turn_at}
use Rattle.ctl_moves.proofs.TurnedLemmas.{turns_on}
use Rattle.ctl_moves.specs.Turning.{PutsLoaded}
use Rattle.ctl_state.specs.declared.belongings.Belongings.{Belongings}
use Rattle.ctl_state.specs.declared.command.Command.{Command}
use Rattle.ctl_state.specs.declared.hold.Hold.{Hold}
use Rattle.ctl_state.specs.declared.pair.Entry.{Entry}
use Rattle.ctl_state.specs.declared.state.State.{State}
use Rattle.ctl_state.specs.Boxes.{mail_at}
use Rattle.ctl_state.specs.Listed.{with_last, with_room, without_room}
use Rattle.ctl_state.specs.Lists.{belongings_at, no_belongings, with_ends, with_holds}
use Rattle.ctl_state.specs.Pairs.{entry_drawn, no_entry, struck_in}
use Rattle.ctl_state.specs.Parts.{on_lists}
use Rattle.ctl_state.specs.Stands.{Stands}
use Rattle.ctl_state.proofs.ReadLemmas.{read_kept, read_less, read_more}
use Rattle.ctl_moves.specs.declared.joining_ends.FirstEnd.{FirstEnd}
use Rattle.ctl_moves.specs.declared.notes.Notes.{Notes}
use Rattle.ctl_moves.specs.declared.owners.Owners.{Owners}
use Rattle.spec_control.specs.declared.entry.Joining.{Joining}
use Rattle.ctl_moves.specs.JoiningEnds.{AttachesFirst, held_first}
use Rattle.ctl_moves.specs.Connecting.{with_hold_room, MayConnect, Connects}
use Rattle.ctl_moves.specs.Joining.{JoinsPair, MayJoin}
use Rattle.ctl_moves.specs.JoinNoting.{joins_named, pipes_named}
use Rattle.ctl_moves.specs.Papers.{AreMarked}
use Rattle.ctl_moves.specs.Room.{HavePlaces, with_commands, with_drawn, with_more}
use Rattle.ctl_moves.proofs.JoinedLemmas.{gets_has, gets_stays, gets_writes, not_held}
use Rattle.ctl_moves.proofs.PairLemmas.{drawn_mine, drawn_other, drawn_owner, drawn_theirs}
use Rattle.ctl_moves.proofs.RoomLemmas.{more_spare, box_there}

-- ---- the lists of what belongs to objects
abbrev pub ends_room : List Belongings → ℕ → ℕ
ends_room lists i = (belongings_at lists i).ends.spare

holds_leave : (lists : List Belongings) (i j : ℕ) (hold : Hold) → ends_room (with_holds (with_last hold) i lists) j ≡ ends_room lists j
holds_leave lists i j hold = read_kept (λ (b : Belongings). b.ends.spare) lists i j _ no_belongings refl

pub room_leaves : (lists : List Belongings) (i j : ℕ) → ends_room (with_holds (with_room 1) i lists) j ≡ ends_room lists j
room_leaves lists i j = read_kept (λ (b : Belongings). b.ends.spare) lists i j _ no_belongings refl

pub holds_stay : (lists : List Belongings) (i j : ℕ) → (belongings_at (with_ends (with_room 1) i lists) j).holds.spare ≡ (belongings_at lists j).holds.spare
holds_stay lists i j = read_kept (λ (b : Belongings). b.holds.spare) lists i j _ no_belongings refl

pub ends_grow : (lists : List Belongings) (i j : ℕ) → i < length lists → ends_room (with_ends (with_room 1) i lists) j ≡ ends_room lists j + cond (i == j) 1 0
ends_grow lists i j there = read_more (λ (b : Belongings). b.ends.spare) lists i j _ no_belongings 1 there refl

pub ends_shrink : (lists : List Belongings) (i j : ℕ) (e : EndId) → i < length lists → 0 < ends_room lists i → ends_room (with_ends (with_last e) i lists) j + cond (i == j) 1 0 ≡ ends_room lists j
ends_shrink lists i j e there some = read_less (λ (b : Belongings). b.ends.spare) lists i j _ no_belongings there (omega (arith, some))

-- room for a hold that was given back
pub hold_back : {L : Type 0} (s : State L) (i : ℕ) → i < length s.objects.lists → on_lists (with_holds (without_room 1) i) (with_hold_room i s) ≡ s
hold_back s i there = ap (λ (l : List Belongings). on_lists (λ _. l) s) back
  where
    was : Belongings
    was = belongings_at s.objects.lists i

    more : Belongings
    more = record was { holds = with_room 1 was.holds }

    back : with_holds (without_room 1) i (with_holds (with_room 1) i s.objects.lists) ≡ s.objects.lists
    back =
        set-set s.objects.lists i more _
        ∙ ap (λ (b : Belongings). slice_set s.objects.lists i (record b { holds = without_room 1 b.holds })) (get_or-set_same s.objects.lists i more no_belongings there)
        ∙ ap (λ (n : ℕ). slice_set s.objects.lists i (record was { holds = record was.holds { spare = n } })) (let e : was.holds.spare + 1 - 1 ≡ was.holds.spare = omega arith in e)
        ∙ set-get_or s.objects.lists i no_belongings

pub hold_spare : {L : Type 0} (s : State L) (i : ℕ) → i < length s.objects.lists → 1 ≤ (belongings_at (with_hold_room i s).objects.lists i).holds.spare
hold_spare s i there = omega (arith, is)
  where
    was : Belongings
    was = belongings_at s.objects.lists i

    is : (belongings_at (with_hold_room i s).objects.lists i).holds.spare ≡ was.holds.spare + 1
    is = ap (λ (b : Belongings). b.holds.spare) (get_or-set_same s.objects.lists i (record was { holds = with_room 1 was.holds }) no_belongings there)

pub held_places : {L : Type 0} (s : State L) (o : Owners) → HavePlaces s o → HavePlaces (with_hold_room o.first.0 s) o
held_places s o p = record {
  first_box = p.first_box;
  last_box = p.last_box;
  first_list = subst (λ (n : ℕ). o.first.0 < n) (sym (length-set s.objects.lists o.first.0 _)) p.first_list;
  last_list = subst (λ (n : ℕ). o.last.0 < n) (sym (length-set s.objects.lists o.first.0 _)) p.last_list;
}

module _ {N O I : Type 0} (s : State (Load N O I)) (h : Holding N) (o : Owners) (wakers : ℕ) (w : MayConnect s h o wakers) where
  abbrev c : Control
  c = w.control

  pub few_numbers : length s.pairs < 2 ^ 32
  few_numbers = let few = w.few_pairs in let many = w.stands.pairs.many in omega (arith, few, many)

  pub first_waker : o.first_slot.0 < wakers
  first_waker = let there = w.places.first_box in let all = w.wakers_there in omega (arith, there, all)

  pub last_waker : o.last_slot.0 < wakers
  last_waker = let there = w.places.last_box in let all = w.wakers_there in omega (arith, there, all)

  abbrev pub marked : AreMarked s o
  marked = record { control = w.control; stands = w.stands; first = w.first_marks; last = w.last_marks }

  module _ (pair : PairId) (number : pair.0 ≡ length s.pairs) where
    abbrev first : EndId
    first = end_of pair.0 true

    pub number_is : pair.0 ≡ next_pair w.control
    number_is = number ∙ sym w.stands.pairs.many

    pub not_there : HasNowhere (end_of pair.0 true) h
    not_there i holds =
        not_held w.names w.control h i w.stands.lists.known (w.has i holds) (end_of pair.0 true)
        (omega (arith, number_is))

    -- no connect of a number that was not drawn was struck
    pub unstruck : w.control.struck (end_of pair.0 true) ≡ false
    unstruck =
        w.stands.pairs.struck_are (end_of pair.0 true)
        ∙ ap (λ (p : Entry). struck_in p true) (get_or_past s.pairs pair.0 no_entry (omega (arith, number)))

    module _ (drawn held : State (Load N O I)) (at : Endpoint) (hold : Hold) (is : drawn ≡ with_drawn true o (with_hold_room o.first.0 s)) (held_is : held ≡ on_lists (with_holds (with_last hold) o.first.0) drawn) where
      abbrev lists_before : List Belongings
      lists_before = with_holds (with_room 1) o.first.0 s.objects.lists

      abbrev lists_first : List Belongings
      lists_first = with_ends (with_room 1) o.first.0 (with_holds (with_room 1) o.first.0 s.objects.lists)

      abbrev lists_drawn : List Belongings
      lists_drawn = with_ends (with_room 1) o.last.0 (with_ends (with_room 1) o.first.0 (with_holds (with_room 1) o.first.0 s.objects.lists))

      there_before : o.first.0 < length (with_holds (with_room 1) o.first.0 s.objects.lists)
      there_before = subst (λ (n : ℕ). o.first.0 < n) (sym (length-set s.objects.lists o.first.0 _)) w.places.first_list

      last_there : o.last.0 < length lists_first
      last_there =
          subst (λ (n : ℕ). o.last.0 < n) (sym (length-set lists_before o.first.0 _))
          (subst (λ (n : ℕ). o.last.0 < n) (sym (length-set s.objects.lists o.first.0 _)) w.places.last_list)

      drawn_there : o.first.0 < length lists_drawn
      drawn_there =
          subst (λ (n : ℕ). o.first.0 < n) (sym (length-set lists_first o.last.0 _))
          (subst (λ (n : ℕ). o.first.0 < n) (sym (length-set lists_before o.first.0 _)) there_before)

      drawn_room : (i : ℕ) → ends_room lists_drawn i ≡ ends_room s.objects.lists i + cond (o.first.0 == i) 1 0 + cond (o.last.0 == i) 1 0
      drawn_room i =
          let x = ends_grow lists_first o.last.0 i last_there in
          let y = ends_grow lists_before o.first.0 i there_before in
          let z = room_leaves s.objects.lists o.first.0 i in
          omega (arith, x, y, z)

      held_lists : held.objects.lists ≡ with_holds (with_last hold) o.first.0 lists_drawn
      held_lists = ap (λ (x : State (Load N O I)). x.objects.lists) held_is ∙ ap (λ (x : State (Load N O I)). with_holds (with_last hold) o.first.0 x.objects.lists) is

      held_room : (i : ℕ) → ends_room held.objects.lists i ≡ ends_room s.objects.lists i + cond (o.first.0 == i) 1 0 + cond (o.last.0 == i) 1 0
      held_room i = ap (λ (l : List Belongings). ends_room l i) held_lists ∙ holds_leave lists_drawn o.first.0 i hold ∙ drawn_room i

      pub room_to_hold : 0 < (belongings_at drawn.objects.lists o.first.0).holds.spare
      room_to_hold =
          let was = hold_spare s o.first.0 w.places.first_list in
          let x = holds_stay lists_first o.last.0 o.first.0 in
          let y = holds_stay lists_before o.first.0 o.first.0 in
          let z = ap (λ (x : State (Load N O I)). (belongings_at x.objects.lists o.first.0).holds.spare) is in
          omega (arith, was, x, y, z)

      pub held_boxes : held.boxes ≡ (with_commands o s).boxes
      held_boxes = ap (λ (x : State (Load N O I)). x.boxes) held_is ∙ ap (λ (x : State (Load N O I)). x.boxes) is

      pub some_there : (n : ℕ) → n ≡ o.first.0 → 0 < ends_room held.objects.lists n
      some_there n same =
          let all = held_room n in
          let on = ap {B = ℕ} (λ (b : Bool). cond b 1 0) (eq-eqb o.first.0 n (sym same)) in
          omega (arith, all, on)

      module _ (out_name : O → N) (in_name : I → N) (end : FirstEnd N O I) (peer : List ℕ) (k : Holding N) (attaches : AttachesFirst out_name in_name o.first.0 (end_of pair.0 true) peer end h k)
          (stands : Stands held (draws o.first.0 o.last.0 (with_hold o.first.0 (IsJoined at pair.0 None) w.control))) where
        abbrev row : PairRow
        row = record { a_owner = o.first.0; b_owner = o.last.0; a = Unmade; b = Unmade }

        abbrev before : Control
        before = with_hold o.first.0 (IsJoined at pair.0 None) w.control

        pub mine : owner_of (draws o.first.0 o.last.0 (with_hold o.first.0 (IsJoined at pair.0 None) w.control)) (end_of pair.0 true) ≡ o.first.0
        mine = drawn_owner before o.first.0 o.last.0 (end_of pair.0 true) number_is

        pub theirs : owner_of (draws o.first.0 o.last.0 (with_hold o.first.0 (IsJoined at pair.0 None) w.control)) (other_end (end_of pair.0 true)) ≡ o.last.0
        theirs = drawn_other before o.first.0 o.last.0 (end_of pair.0 true) number_is

        abbrev pub may_join : MayJoin out_name in_name held k o.first.0 (end_of pair.0 true) end.other
        may_join = record {
          control = draws o.first.0 o.last.0 (with_hold o.first.0 (IsJoined at pair.0 None) w.control);
          stands = stands;
          mine = drawn_mine before o.first.0 o.last.0 (end_of pair.0 true) number_is;
          theirs = drawn_theirs before o.first.0 o.last.0 (end_of pair.0 true) number_is;
          unasked = ap (λ (n : ℕ). was_asked (obj w.control.rows n).stage) mine ∙ w.unasked;
          other_lives = ap (λ (n : ℕ). has_ended (obj w.control.rows n).stage) theirs ∙ unasked_lives (obj w.control.rows o.last.0).stage w.last_unasked;
          unstruck = unstruck;
          few_objects = w.few_objects;
          few_pairs = (let few = w.few_pairs in let many = length_push w.control.rows.pairs row in omega (arith, few, many));
          place = some_there (owner_of (draws o.first.0 o.last.0 (with_hold o.first.0 (IsJoined at pair.0 None) w.control)) (end_of pair.0 true)) mine;
          room =
              subst (λ (n : ℕ). 2 ≤ (mail_at held.boxes (obj w.control.rows n).slot).spare) (sym theirs)
              (subst (λ (n : ℕ). 2 ≤ (mail_at held.boxes n).spare) (sym w.last_slot)
              (subst (λ (b : List (Mail (Command (Load N O I)))). 2 ≤ (mail_at b o.last_slot.0).spare) (sym held_boxes)
              (let three = more_spare (with_more o.first_slot.0 2 s) o.last_slot.0 3 (box_there s o.first_slot.0 2 o.last_slot.0 w.places.last_box) in omega (arith, three))));
          has = gets_has pair.0 o.first.0 (held_first (end_of pair.0 true) end) h k (attaches.gets pair.0 (omega arith));
          writes = gets_writes pair.0 o.first.0 (held_first (end_of pair.0 true) end) h k (attaches.gets pair.0 (omega arith));
          state = attaches.active;
          halves = record { out = attaches.other_out; input = attaches.other_in };
        }

        pub connects : (identity : List ℕ) → identity ≡ (obj w.control.rows o.first.0).options.id → peer ≡ (obj w.control.rows o.last.0).options.id → (t : State (Load N O I)) (last : Holding N) (notes : Notes N) →
            JoinsPair out_name in_name (draws o.first.0 o.last.0 (with_hold o.first.0 (IsJoined at pair.0 None) w.control))
            (greet end.answer (end_of pair.0 true) (open_pair (end_of pair.0 true) (PipeBind (other_end (end_of pair.0 true)) identity) (draws o.first.0 o.last.0 (with_hold o.first.0 (IsJoined at pair.0 None) w.control))))
            o.first.0 (end_of pair.0 true) end.other held t k last →
            notes.joined.items ≡ joins_named (end_of pair.0 true) peer end.answer end.told ∷ [] → notes.opened.items ≡ pipes_named (end_of pair.0 true) end.opened →
            Connects out_name in_name w.control o at pair notes s t h last
        connects identity identity_is peer_is t last notes j joined opened = record {
          number = number_is;
          answer = end.answer;
          told = end.told;
          refuses = attaches.refuses;
          stands =
              subst (λ (id : List ℕ). Stands t (greet end.answer (end_of pair.0 true) (open_pair (end_of pair.0 true) (PipeBind (end_of pair.0 false) id) (draws o.first.0 o.last.0 (with_hold o.first.0 (IsJoined at pair.0 None) w.control)))))
              identity_is j.stands;
          joined = joined ∙ ap (λ (x : List ℕ). joins_named (end_of pair.0 true) x end.answer end.told ∷ []) peer_is;
          opened = opened ∙ ap (pipes_named (end_of pair.0 true)) attaches.opened;
          gets = gets_stays (next_pair w.control) o.first.0 (held_first (end_of pair.0 true) end ∷ []) h k last (attaches.gets (next_pair w.control) (omega (arith, number_is))) j.stays
              (λ i e less here. j.moves.others i e here (another_pair e less (is_end e (end_of pair.0 true)) refl));
          puts = λ names written read.
              subst (λ (b : List (Mail (Command (Load N O I)))). PutsLoaded out_name in_name names b t.boxes) held_boxes
              (j.puts names (written ∙ ap Some (sym attaches.other_written)) (read ∙ ap Some (sym attaches.other_read)));
          mine = subst (λ (id : List ℕ). place_of (greet end.answer (end_of pair.0 true) (open_pair (end_of pair.0 true) (PipeBind (end_of pair.0 false) id) (draws o.first.0 o.last.0 (with_hold o.first.0 (IsJoined at pair.0 None) w.control)))) (end_of pair.0 true) ≡ At (last.state (end_of pair.0 true)))
              identity_is j.moves.mine;
          turned = subst (λ (id : List ℕ). TurnsBy (turn_at (end_of pair.0 true) Unmade (place_of (greet end.answer (end_of pair.0 true) (open_pair (end_of pair.0 true) (PipeBind (end_of pair.0 false) id) (draws o.first.0 o.last.0 (with_hold o.first.0 (IsJoined at pair.0 None) w.control)))) (end_of pair.0 true))) h last)
              identity_is (turns_on [] _ h k last attaches.turned
              (subst (λ (p : Place). TurnsBy (turn_at (end_of pair.0 true) p (place_of (greet end.answer (end_of pair.0 true) (open_pair (end_of pair.0 true) (PipeBind (end_of pair.0 false) identity) (draws o.first.0 o.last.0 (with_hold o.first.0 (IsJoined at pair.0 None) w.control)))) (end_of pair.0 true))) k last)
              may_join.mine j.moves.turned));
          heard = j.moves.heard ∙ attaches.heard;
          came = j.moves.joined ∙ attaches.came ∙ ap (λ (js : List (Joining N)). h.joined ++ js) (sym joined);
          places = λ i.
              (let now = ap (λ (l : List Belongings). ends_room l i) (j.lists ∙ ap (λ (n : ℕ). with_ends (with_last (end_of pair.0 true)) n held.objects.lists) mine) in
              let less = ends_shrink held.objects.lists o.first.0 i (end_of pair.0 true) first_there (some_there o.first.0 refl) in
              let was = held_room i in
              omega (arith, now, less, was));
        }
          where
            another_pair : (e : EndId) → e.pair.0 < next_pair w.control → (b : Bool) → is_end e (end_of pair.0 true) ≡ b → is_end e (end_of pair.0 true) ≡ false
            another_pair e less false is_so = is_so
            another_pair e less true is_so = absurd (both (ap (λ (d : EndId). d.pair.0) (same_end e (end_of pair.0 true) is_so)))
              where
                both : e.pair.0 ≡ pair.0 → ⊥
                both same = (let number = number_is in omega (arith, same, less, number))

            first_there : o.first.0 < length held.objects.lists
            first_there =
                subst (λ (l : List Belongings). o.first.0 < length l) (sym held_lists)
                (subst (λ (n : ℕ). o.first.0 < n) (sym (length-set lists_drawn o.first.0 _)) drawn_there)

  -- a number that was drawn is the last one
  pub drawn_last : (pair : PairId) → pair.0 ≡ length s.pairs → (drawn : State (Load N O I)) → drawn ≡ with_drawn true o (with_hold_room o.first.0 s) → pair.0 + 1 ≡ length drawn.pairs
  drawn_last pair number drawn is =
      let many = ap (λ (x : State (Load N O I)). length x.pairs) is in
      let push = length_push s.pairs (entry_drawn o.first o.last) in
      omega (arith, number, many, push)
