-- That a connect over tcp makes its session and their pair.
use Rattle.std.specs.Prelude.{◌≡◌, ◌<◌, ◌≤◌, ◌⊎◌, ◌+◌, ◌==◌, ◌++◌, ◌∷◌, [], ℕ, Bool, true, false, cond, List, Some, None, length, slice_index_or, refl}
use Rattle.std.proofs.Common.{arith, sym, ap, ◌∙◌, subst, inl, inr}
use Rattle.std.proofs.lemmas.Bool.{cases_order, eq-eqb, ne_eqb}
use Rattle.std.proofs.lemmas.List.{append-nil, get_or_append_left, get_or_past, get_or_push, length-set, length_push}
use Rattle.std.proofs.lemmas.List.Elements.{All-nil}
use Rattle.zq_base.specs.Ends.{other_end}
use Rattle.zq_base.specs.declared.endpoint.Address.{Address}
use Rattle.zq_base.specs.declared.endpoint.Endpoint.TheVariants.{Tcp}
use Rattle.zq_base.specs.declared.ids.EndId.{EndId}
use Rattle.zq_base.specs.declared.ids.ObjId.{ObjId}
use Rattle.zq_base.specs.declared.ids.PairId.{PairId}
use Rattle.mailbox.specs.Mail.{no_mail}
use Rattle.spec_control.specs.declared.entry.Joining.{Joining}
use Rattle.spec_control.specs.declared.letter.Word.TheVariants.{Own, Plug}
use Rattle.spec_control.specs.Held.{Held}
use Rattle.spec_control.specs.Hold.{Joined as IsJoined}
use Rattle.spec_control.specs.Place.{Place, Unmade}
use Rattle.spec_control.specs.Row.{Row, nobody}
use Rattle.spec_control.specs.Rows.{obj}
use Rattle.spec_control.specs.Stage.{has_ended, was_asked}
use Rattle.spec_control.specs.After.{session_row, with_hold}
use Rattle.spec_control.specs.Control.{Control, draws, end_of, greet, is_end, makes, next_object, next_pair, open_pair, owner_of, place_of, put}
use Rattle.control_laws.proofs.AskLemmas.{end_self, same_end}
use Rattle.desk.specs.declared.load.Load.{Load}
use Rattle.desk.specs.Holding.{BeginsNone, HasNowhere, HearsNone, Holding, IsLast, Left, TakesBack}
use Rattle.desk.specs.Making.{outward}
use Rattle.desk.specs.Turns.{TurnsBy, turn_at}
use Rattle.ctl_state.specs.declared.belongings.Belongings.{Belongings}
use Rattle.ctl_state.specs.declared.detail.Made.{Made}
use Rattle.ctl_state.specs.declared.hold.Hold.{Hold}
use Rattle.ctl_state.specs.declared.pair.Entry.{Entry}
use Rattle.ctl_state.specs.declared.state.State.{State}
use Rattle.ctl_state.specs.Boxes.{mail_at}
use Rattle.ctl_state.specs.Listed.{with_last, with_room}
use Rattle.ctl_state.specs.Lists.{belongings_at, no_belongings, room_for, with_ends, with_holds}
use Rattle.ctl_state.specs.Objects.{row_made}
use Rattle.ctl_state.specs.Pairs.{no_entry, struck_in}
use Rattle.ctl_state.specs.Parts.{on_lists, sent_to}
use Rattle.ctl_state.specs.Stands.{Stands, letter_for, slot_of}
use Rattle.ctl_state.proofs.ListedLemmas.{room_placed}
use Rattle.ctl_state.proofs.ReadLemmas.{pushed_same}
use Rattle.ctl_moves.specs.declared.joining_ends.Capacities.{Capacities}
use Rattle.ctl_moves.specs.declared.joining_ends.FirstEnd.{FirstEnd}
use Rattle.ctl_moves.specs.declared.notes.Notes.{Notes}
use Rattle.ctl_moves.specs.declared.owners.Owners.{Owners}
use Rattle.ctl_moves.specs.Dialing.{Dials, MakesSession, MayDial, MayMakeOut, dialed_now, with_dialed}
use Rattle.ctl_moves.specs.Drawing.{IsBack}
use Rattle.ctl_moves.specs.Joining.{JoinsPair, MayJoin}
use Rattle.ctl_moves.specs.JoinNoting.{joins_named, pipes_named}
use Rattle.ctl_moves.specs.JoiningEnds.{AttachesFirst, held_first}
use Rattle.ctl_moves.specs.Listening.{with_box}
use Rattle.ctl_moves.specs.Room.{with_both}
use Rattle.ctl_moves.specs.Serving.{HaveSeats}
use Rattle.ctl_moves.specs.SessionEnds.{HoldsAs}
use Rattle.ctl_moves.proofs.ConnectingLemmas.{ends_grow, ends_room, ends_shrink, hold_spare, holds_stay, room_leaves}
use Rattle.ctl_moves.proofs.JoinedLemmas.{gets_has, gets_stays, gets_writes, not_held}
use Rattle.ctl_moves.proofs.MailLemmas.{puts_on}
use Rattle.ctl_moves.proofs.PairLemmas.{drawn_mine, drawn_other, drawn_owner, drawn_theirs}
use Rattle.ctl_moves.proofs.ServingLemmas.{last_left, own_ends, own_puts, own_room, slot_before, slot_is, slot_made, worker_there}
use Rattle.ctl_moves.proofs.TakenLemmas.{gets_less, gets_none}
use Rattle.ctl_moves.proofs.TurnedLemmas.{turns_on}

-- ---- the socket's end, where the session can't be made
module _ {N O I : Type 0} (out_name : O → N) (in_name : I → N) (o : ℕ) (end : EndId) (f : FirstEnd N O I) (h k : Holding N) (a : AttachesFirst out_name in_name o end [] f h k) where
  pub end_last : IsLast end (k.ends o)
  end_last = record { before = h.ends o; last = held_first end f; are = (a.gets 0 (omega arith)).ends; end = end_self end }

  pub end_writes : k.writes end ≡ true
  end_writes = gets_writes 0 o (held_first end f) h k (a.gets 0 (omega arith))

  pub end_back : (l : Holding N) → h.holds o ≡ true → HasNowhere end h → Left o end k l → BeginsNone k l → TakesBack k l → HearsNone k l → IsBack end.pair.0 o h l
  end_back l lent nowhere left begins back heard =
      gets_none end.pair.0 o h l
      (gets_less end.pair.0 o [] (held_first end f) h k l (omega arith) (All-nil (λ (y : Held N). y.end.pair.0 < end.pair.0)) (nowhere o lent) (a.gets end.pair.0 (omega arith)) left begins)
      (begins.turns ∙ a.turned.turns ∙ append-nil h.turns) (begins.sealed ∙ a.turned.sealed ∙ append-nil h.sealed)
      (back h.joined (joins_named end [] f.answer f.told) a.came) (heard ∙ a.heard)

-- that end may be made with pipes that hold what the socket's marks say
pub made_out : {L : Type 0} (s : State L) (o : Owners) (may_make : EndId → ℕ → ℕ → Type 0) (m : MayMakeOut s o may_make) (pair : PairId) → pair.0 ≡ length s.pairs → (x : Capacities) →
    ((e : EndId) → HoldsAs (outward (obj m.control.rows o.first.0).options e) x) → may_make (end_of pair.0 true) x.written x.read
made_out s o may_make m pair number x holds =
    let sizes = holds (end_of pair.0 true) in
    subst (λ (n : ℕ). may_make (end_of pair.0 true) n x.read) (sym sizes.written)
    (subst (λ (n : ℕ). may_make (end_of pair.0 true) (obj m.control.rows o.first.0).options.hwm n) (sym sizes.read)
    (subst (λ (n : ℕ). may_make (end_of n true) (obj m.control.rows o.first.0).options.hwm (obj m.control.rows o.first.0).options.rcvhwm) (sym number) m.makes))

-- ---- the lists of what belongs to objects
-- one more, with room of its own
pushed_more : {X : Type 0} (g : X → ℕ) (xs : List X) (x d : X) (n j : ℕ) → g x ≡ g d + n → g (slice_index_or (xs ++ x ∷ []) j d) ≡ g (slice_index_or xs j d) + cond (length xs == j) n 0
pushed_more g xs x d n j more = by (cases_order j (length xs))
  where
    by : (j ≡ length xs) ⊎ ((j < length xs) ⊎ (length xs < j)) → g (slice_index_or (xs ++ x ∷ []) j d) ≡ g (slice_index_or xs j d) + cond (length xs == j) n 0
    by (inl same) =
        let now = ap g (get_or_push xs x d j (sym same)) in
        let was = ap g (get_or_past xs j d (omega (arith, same))) in
        let on = ap {B = ℕ} (λ (b : Bool). cond b n 0) (eq-eqb (length xs) j (sym same)) in
        omega (arith, now, was, on, more)
    by (inr (inl below)) =
        let now = ap g (get_or_append_left xs (x ∷ []) d j below) in
        let off = ap {B = ℕ} (λ (b : Bool). cond b n 0) (ne_eqb (length xs) j (λ e. omega (arith, e, below))) in
        omega (arith, now, off)
    by (inr (inr above)) =
        let many = length_push xs x in
        let now = ap g (get_or_past (xs ++ x ∷ []) j d (omega (arith, above, many))) in
        let was = ap g (get_or_past xs j d (omega (arith, above))) in
        let off = ap {B = ℕ} (λ (b : Bool). cond b n 0) (ne_eqb (length xs) j (λ e. omega (arith, e, above))) in
        omega (arith, now, was, off)

module _ {N O I : Type 0} (s : State (Load N O I)) (h : Holding N) (o : Owners) (w : MayDial s h o) where
  abbrev c : Control
  c = w.control

  abbrev pub seats : HaveSeats s o
  seats = record {
    first_box = subst (λ (n : ℕ). n < length s.boxes) w.served.first_slot w.takes.box;
    last_box = worker_there s w.control o.first o w.stands w.takes.workers w.served;
    list = w.takes.list;
  }

  module _ (pair : PairId) (number : pair.0 ≡ length s.pairs) where
    pub number_is : pair.0 ≡ next_pair w.control
    number_is = number ∙ sym w.stands.pairs.many

    pub not_there : HasNowhere (end_of pair.0 true) h
    not_there i holds = not_held w.names w.control h i w.stands.lists.known (w.has i holds) (end_of pair.0 true) (omega (arith, number_is))

    -- no connect of a number that was not drawn was struck
    pub unstruck : w.control.struck (end_of pair.0 true) ≡ false
    unstruck =
        w.stands.pairs.struck_are (end_of pair.0 true)
        ∙ ap (λ (p : Entry). struck_in p true) (get_or_past s.pairs pair.0 no_entry (omega (arith, number)))

    module _ (made : Made) (row_is : row_made o.first made ≡ session_row o.first.0 w.control) (drawn t : State (Load N O I)) (is : drawn ≡ with_dialed o s) (child : ObjId) (m : MakesSession o.first made child drawn t)
        (moves : Stands drawn (draws o.first.0 o.last.0 w.control)) where
      child_is : child.0 ≡ next_object w.control
      child_is = m.number ∙ sym moves.objects.many

      last_is : o.last.0 ≡ child.0
      last_is = w.served.last ∙ sym child_is

      abbrev made_now : Control
      made_now = makes (row_made o.first made) (draws o.first.0 o.last.0 w.control)

      stands_made : Stands t (makes (row_made o.first made) (draws o.first.0 o.last.0 w.control))
      stands_made = m.stands (draws o.first.0 o.last.0 w.control) moves

      boxes : t.boxes ≡ (with_box (with_both 5 4 o s)).boxes
      boxes = ap (λ (x : State (Load N O I)). x.boxes) m.next ∙ ap (λ (x : State (Load N O I)). x.boxes ++ no_mail ∷ []) is

      mine : slot_of t o.first.0 ≡ o.first_slot.0
      mine = slot_is t made_now stands_made o.first.0 ∙ slot_before w.control.rows.objects (row_made o.first made) o.first.0 w.takes.there ∙ w.served.first_slot

      theirs : slot_of t child.0 ≡ o.last_slot.0
      theirs = slot_is t made_now stands_made child.0 ∙ slot_made w.control.rows.objects (row_made o.first made) child.0 child_is ∙ ap (λ (r : Row). r.slot) row_is ∙ w.served.last_slot

      pub mail : 0 < (mail_at t.boxes (slot_of t o.first.0)).spare
      mail = own_room s o 5 4 seats t boxes mine (omega arith)

      abbrev lists_held : List Belongings
      lists_held = with_holds (with_room 1) o.first.0 s.objects.lists

      abbrev lists_drawn : List Belongings
      lists_drawn = with_ends (with_room 1) o.first.0 (with_holds (with_room 1) o.first.0 s.objects.lists)

      lists : t.objects.lists ≡ with_ends (with_room 1) o.first.0 (with_holds (with_room 1) o.first.0 s.objects.lists) ++ room_for 1 ∷ []
      lists = ap (λ (x : State (Load N O I)). x.objects.lists) m.next ∙ ap (λ (x : State (Load N O I)). x.objects.lists ++ room_for 1 ∷ []) is

      held_there : o.first.0 < length (with_holds (with_room 1) o.first.0 s.objects.lists)
      held_there = subst (λ (n : ℕ). o.first.0 < n) (sym (length-set s.objects.lists o.first.0 _)) w.takes.list

      drawn_many : length (with_ends (with_room 1) o.first.0 (with_holds (with_room 1) o.first.0 s.objects.lists)) ≡ child.0
      drawn_many = sym (ap (λ (x : State (Load N O I)). length x.objects.lists) is) ∙ m.even ∙ sym m.number

      pub hold_room : 0 < (belongings_at t.objects.lists o.first.0).holds.spare
      hold_room =
          let now = ap (λ (ls : List Belongings). (belongings_at ls o.first.0).holds.spare) lists in
          let same = pushed_same (λ (b : Belongings). b.holds.spare) lists_drawn (room_for 1) no_belongings o.first.0 refl in
          let stay = holds_stay lists_held o.first.0 o.first.0 in
          let some = hold_spare s o.first.0 w.takes.list in
          omega (arith, now, same, stay, some)

      made_room : (i : ℕ) → ends_room t.objects.lists i ≡ ends_room s.objects.lists i + cond (o.first.0 == i) 1 0 + cond (child.0 == i) 1 0
      made_room i =
          let now = ap (λ (ls : List Belongings). ends_room ls i) lists in
          let more = pushed_more (λ (b : Belongings). b.ends.spare) lists_drawn (room_for 1) no_belongings 1 i refl in
          let at = ap {B = ℕ} (λ (n : ℕ). cond (n == i) 1 0) drawn_many in
          let grow = ends_grow lists_held o.first.0 i held_there in
          let leave = room_leaves s.objects.lists o.first.0 i in
          omega (arith, now, more, at, grow, leave)

      module _ (at : Address) (u : State (Load N O I)) (hold : Hold) (held_is : u ≡ sent_to (slot_of t o.first.0) (letter_for o.first (Own child) None) (on_lists (with_holds (with_last hold) o.first.0) t))
          (held : Stands u (put o.first.0 (Own child) (with_hold o.first.0 (IsJoined (Tcp at) pair.0 (Some child.0)) (makes (row_made o.first made) (draws o.first.0 o.last.0 w.control))))) where
        abbrev before : Control
        before = put o.first.0 (Own child) (draws o.first.0 child.0 (makes (session_row o.first.0 w.control) (with_hold o.first.0 (IsJoined (Tcp at) pair.0 (Some child.0)) w.control)))

        pub stands_before : Stands u (put o.first.0 (Own child) (draws o.first.0 child.0 (makes (session_row o.first.0 w.control) (with_hold o.first.0 (IsJoined (Tcp at) pair.0 (Some child.0)) w.control))))
        stands_before =
            subst (λ (n : ℕ). Stands u (put o.first.0 (Own child) (draws o.first.0 n (makes (session_row o.first.0 w.control) (with_hold o.first.0 (IsJoined (Tcp at) pair.0 (Some child.0)) w.control))))) last_is
            (subst (λ (r : Row). Stands u (put o.first.0 (Own child) (draws o.first.0 o.last.0 (makes r (with_hold o.first.0 (IsJoined (Tcp at) pair.0 (Some child.0)) w.control))))) row_is held)

        pub left : 4 ≤ (mail_at u.boxes o.last_slot.0).spare + 1
        left = last_left s o 5 4 seats t boxes mine (omega arith) child theirs u hold held_is

        same_room : (i : ℕ) → ends_room u.objects.lists i ≡ ends_room s.objects.lists i + cond (o.first.0 == i) 1 0 + cond (child.0 == i) 1 0
        same_room i =
            let same = ap (λ b. b.spare) (own_ends s o 5 4 seats t boxes mine (omega arith) child theirs u hold held_is i) in
            let was = made_room i in
            omega (arith, same, was)

        pub mine_owner : owner_of before (end_of pair.0 true) ≡ o.first.0
        mine_owner = drawn_owner w.control o.first.0 child.0 (end_of pair.0 true) number_is

        pub their_owner : owner_of before (other_end (end_of pair.0 true)) ≡ child.0
        their_owner = drawn_other w.control o.first.0 child.0 (end_of pair.0 true) number_is

        pub row_before : obj before.rows o.first.0 ≡ obj w.control.rows o.first.0
        row_before = get_or_append_left w.control.rows.objects (session_row o.first.0 w.control ∷ []) nobody o.first.0 w.takes.there

        pub row_child : obj before.rows child.0 ≡ session_row o.first.0 w.control
        row_child = get_or_push w.control.rows.objects (session_row o.first.0 w.control) nobody child.0 (sym child_is)

        pub some_there : (n : ℕ) → n ≡ o.first.0 → 0 < ends_room u.objects.lists n
        some_there n same =
            let all = same_room n in
            let on = ap {B = ℕ} (λ (b : Bool). cond b 1 0) (eq-eqb o.first.0 n (sym same)) in
            omega (arith, all, on)

        module _ (out_name : O → N) (in_name : I → N) (end : FirstEnd N O I) (k : Holding N) (attaches : AttachesFirst out_name in_name o.first.0 (end_of pair.0 true) [] end h k) where
          abbrev pub may_join : MayJoin out_name in_name u k o.first.0 (end_of pair.0 true) end.other
          may_join = record {
            control = before;
            stands = stands_before;
            mine = drawn_mine w.control o.first.0 child.0 (end_of pair.0 true) number_is;
            theirs = drawn_theirs w.control o.first.0 child.0 (end_of pair.0 true) number_is;
            unasked = ap (λ (n : ℕ). was_asked (obj before.rows n).stage) mine_owner ∙ ap (λ (r : Row). was_asked r.stage) row_before ∙ w.unasked;
            other_lives = ap (λ (n : ℕ). has_ended (obj before.rows n).stage) their_owner ∙ ap (λ (r : Row). has_ended r.stage) row_child;
            unstruck = unstruck;
            few_objects = (let few = w.takes.few in let many = length_push w.control.rows.objects (session_row o.first.0 w.control) in omega (arith, few, many));
            few_pairs = (let few = w.few_pairs in let many = length_push w.control.rows.pairs (record { a_owner = o.first.0; b_owner = child.0; a = Unmade; b = Unmade }) in omega (arith, few, many));
            place = some_there (owner_of before (end_of pair.0 true)) mine_owner;
            room =
                subst (λ (n : ℕ). 2 ≤ (mail_at u.boxes (obj before.rows n).slot).spare) (sym their_owner)
                (subst (λ (r : Row). 2 ≤ (mail_at u.boxes r.slot).spare) (sym row_child)
                (subst (λ (n : ℕ). 2 ≤ (mail_at u.boxes n).spare) (sym w.served.last_slot) (let four = left in omega (arith, four))));
            has = gets_has pair.0 o.first.0 (held_first (end_of pair.0 true) end) h k (attaches.gets pair.0 (omega arith));
            writes = gets_writes pair.0 o.first.0 (held_first (end_of pair.0 true) end) h k (attaches.gets pair.0 (omega arith));
            state = attaches.active;
            halves = record { out = attaches.other_out; input = attaches.other_in };
          }

          pub dials : (v : State (Load N O I)) (last : Holding N) (notes : Notes N) →
              JoinsPair out_name in_name before (greet end.answer (end_of pair.0 true) (open_pair (end_of pair.0 true) (Plug (Some (other_end (end_of pair.0 true)))) before)) o.first.0 (end_of pair.0 true) end.other u v k last →
              notes.joined.items ≡ joins_named (end_of pair.0 true) [] end.answer end.told ∷ [] → notes.opened.items ≡ pipes_named (end_of pair.0 true) end.opened →
              Dials out_name in_name w.control o at child pair notes s v h last
          dials v last notes j joined opened = record {
            child_is = child_is;
            number = number_is;
            answer = end.answer;
            told = end.told;
            refuses = attaches.refuses;
            stands = j.stands;
            joined = joined;
            opened = opened ∙ ap (pipes_named (end_of pair.0 true)) attaches.opened;
            gets = gets_stays (next_pair w.control) o.first.0 (held_first (end_of pair.0 true) end ∷ []) h k last (attaches.gets (next_pair w.control) (omega (arith, number_is))) j.stays
                (λ i e less here. j.moves.others i e here (another_pair e less (is_end e (end_of pair.0 true)) refl));
            puts = λ names written read.
                puts_on out_name in_name names (with_box (with_both 5 4 o s)).boxes u.boxes v.boxes (own_puts s o 5 4 seats t boxes mine (omega arith) child theirs u hold held_is out_name in_name names)
                (j.puts names (written ∙ ap Some (sym attaches.other_written)) (read ∙ ap Some (sym attaches.other_read)));
            mine = j.moves.mine;
            turned = turns_on [] (turn_at (end_of pair.0 true) Unmade (place_of (dialed_now w.control o.first child at pair.0 end.answer) (end_of pair.0 true))) h k last attaches.turned
                (subst (λ (p : Place). TurnsBy (turn_at (end_of pair.0 true) p (place_of (dialed_now w.control o.first child at pair.0 end.answer) (end_of pair.0 true))) k last) may_join.mine j.moves.turned);
            heard = j.moves.heard ∙ attaches.heard;
            came = j.moves.joined ∙ attaches.came ∙ ap (λ (js : List (Joining N)). h.joined ++ js) (sym joined);
            places = λ i.
                (let now = ap (λ (l : List Belongings). ends_room l i) (j.lists ∙ ap (λ (n : ℕ). with_ends (with_last (end_of pair.0 true)) n u.objects.lists) mine_owner) in
                let less = ends_shrink u.objects.lists o.first.0 i (end_of pair.0 true) (room_placed u.objects.lists o.first.0 (some_there o.first.0 refl)) (some_there o.first.0 refl) in
                let was = same_room i in
                omega (arith, now, less, was));
          }
            where
              another_pair : (e : EndId) → e.pair.0 < next_pair w.control → (b : Bool) → is_end e (end_of pair.0 true) ≡ b → is_end e (end_of pair.0 true) ≡ false
              another_pair e less false is_so = is_so
              another_pair e less true is_so = absurd (both (ap (λ (d : EndId). d.pair.0) (same_end e (end_of pair.0 true) is_so)))
                where
                  both : e.pair.0 ≡ pair.0 → ⊥
                  both same = (let number = number_is in omega (arith, same, less, number))
