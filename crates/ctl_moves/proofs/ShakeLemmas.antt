-- That the pair of an accepted session is made with the holder of the session's end.
use Rattle.std.specs.Prelude.{◌≡◌, ◌<◌, ◌+◌, ◌==◌, ◌&&◌, ◌++◌, ◌∷◌, [], ℕ, Bool, true, false, not, cond, List, Option, Some, All, length, map, if◌then◌else◌, refl}
use Rattle.std.proofs.Common.{arith, sym, ap, ◌∙◌, subst}
use Rattle.std.proofs.lemmas.Bool.{eq-eqb}
use Rattle.std.proofs.lemmas.List.{length-set}
use Rattle.std.proofs.lemmas.List.Elements.{All-cons, All-filter, All-head, All-nil, All-tail, All-weaker}
use Rattle.zq_base.specs.Ends.{other_end}
use Rattle.zq_base.specs.declared.ids.EndId.{EndId}
use Rattle.zq_base.specs.declared.ids.ObjId.{ObjId}
use Rattle.mailbox.specs.Mail.{Mail}
use Rattle.spec_control.specs.declared.entry.Joining.{Joining}
use Rattle.spec_control.specs.Place.{is_here, is_unmade}
use Rattle.spec_control.specs.PairPhase.{Opens as IsOpened}
use Rattle.spec_control.specs.Rows.{PairRow, end_place, no_pair, obj, pair, pair_after}
use Rattle.spec_control.specs.Control.{Control, attach, is_end, owner_of, place_of, same_side}
use Rattle.spec_control.specs.Stage.{has_ended}
use Rattle.spec_control.specs.Held.{Held}
use Rattle.control_laws.proofs.AskLemmas.{end_self}
use Rattle.control_laws.proofs.AttachLemmas.{attach_moved}
use Rattle.control_laws.proofs.ListLemmas.{never, is_here as here_is, is_elsewhere, written}
use Rattle.desk.specs.declared.load.Load.{Load}
use Rattle.desk.specs.Holding.{HasNowhere, Holding}
use Rattle.desk.specs.Lent.{here_ends, HasAll, HasBothNames}
use Rattle.desk.specs.Making.{inward}
use Rattle.ctl_state.specs.declared.belongings.Belongings.{Belongings}
use Rattle.ctl_state.specs.declared.command.Command.{Command}
use Rattle.ctl_state.specs.declared.state.State.{State}
use Rattle.ctl_state.specs.Boxes.{mail_at}
use Rattle.ctl_state.specs.Listed.{with_last, with_room}
use Rattle.ctl_state.specs.Lists.{with_ends}
use Rattle.ctl_state.specs.Stands.{Stands}
use Rattle.ctl_moves.specs.declared.joining_ends.Capacities.{Capacities}
use Rattle.ctl_moves.specs.declared.joining_ends.FirstEnd.{FirstEnd}
use Rattle.ctl_moves.specs.declared.joining_ends.Names.{Names}
use Rattle.ctl_moves.specs.declared.notes.Notes.{Notes}
use Rattle.ctl_moves.specs.declared.owners.Owners.{Owners}
use Rattle.ctl_moves.specs.JoiningEnds.{AttachesFirst, held_first}
use Rattle.ctl_moves.specs.JoinNoting.{joins_named, pipes_named}
use Rattle.ctl_moves.specs.Room.{AreOwners, HavePlaces, with_both, with_more}
use Rattle.ctl_moves.specs.SessionEnds.{HoldsAs, IsMarked}
use Rattle.ctl_moves.specs.Shaking.{HasBindRoom, IsApart, MayMakeIn, MayOpenShaken, MayShakeAt, OpensShaken, Shakes, with_shake_room}
use Rattle.ctl_moves.proofs.AcceptingLemmas.{more_commands, more_spares}
use Rattle.ctl_moves.proofs.ConnectingLemmas.{ends_grow, ends_room, ends_shrink}
use Rattle.ctl_moves.proofs.JoinedLemmas.{has_stays}
use Rattle.ctl_moves.proofs.OneMoreLemmas.{AttachesOne, IsElse, has_one_more, not_yet}
use Rattle.ctl_moves.proofs.OpeningLemmas.{opened_owner}
use Rattle.ctl_moves.proofs.ShakingLemmas.{unmade_within}
use Rattle.ctl_moves.proofs.TurnedLemmas.{turns_on}

-- ---- ends of other pairs
two_sides : (x y : Bool) → same_side x y ≡ false → same_side x (not y) ≡ false → ⊥
two_sides true true a b = never (sym a)
two_sides true false a b = never (sym b)
two_sides false true a b = never (sym b)
two_sides false false a b = never (sym a)

other_side : (x y : Bool) → same_side (not x) y ≡ same_side x (not y)
other_side true true = refl
other_side true false = refl
other_side false true = refl
other_side false false = refl

twice_not : (x : Bool) → not (not x) ≡ x
twice_not true = refl
twice_not false = refl

-- the other end of such an end is none of the pair's either
apart_mine : (first x : EndId) → IsApart first x → is_end (other_end x) first ≡ false
apart_mine first x apart = ap (λ (b : Bool). (x.pair.0 == first.pair.0) && b) (other_side x.a first.a) ∙ apart.theirs

apart_theirs : (first x : EndId) → IsApart first x → is_end (other_end x) (other_end first) ≡ false
apart_theirs first x apart = ap (λ (b : Bool). (x.pair.0 == first.pair.0) && b) (other_side x.a (not first.a) ∙ ap (same_side x.a) (twice_not first.a)) ∙ apart.mine

All-unmap : {X Y : Type 0} (P : Y → Type 0) (f : X → Y) (xs : List X) → All P (map f xs) → All (λ x. P (f x)) xs
All-unmap P f [] h = All-nil (λ x. P (f x))
All-unmap P f (x ∷ xs) h = All-cons (λ y. P (f y)) x xs (All-head P (f x) (map f xs) h) (All-unmap P f xs (All-tail P (f x) (map f xs) h))

-- the names of a pair's pipes beside those that there were
abbrev pub named_more : {N : Type 0} → EndId → Names N → (EndId → Option N) → EndId → Option N
named_more first told names e = if is_end e first then Some told.written else (if is_end e (other_end first) then Some told.read else names e)

-- every other end is where it was
pub else_where : (c : Control) (first : EndId) → first.pair.0 < length c.rows.pairs → (x : EndId) → IsApart first x → place_of (attach IsOpened first c) x ≡ place_of c x
else_where c first within x apart =
    elim (written c.rows.pairs (pair_after IsOpened first.a (pair c.rows first.pair.0)) no_pair first.pair.0 x.pair.0 within) [
      | here_is here same ↦
          absurd (two_sides x.a first.a
          (sym (ap (λ (b : Bool). b && same_side x.a first.a) (eq-eqb x.pair.0 first.pair.0 here)) ∙ apart.mine)
          (sym (ap (λ (b : Bool). b && same_side x.a (not first.a)) (eq-eqb x.pair.0 first.pair.0 here)) ∙ apart.theirs))
      | is_elsewhere same ↦ ap (λ (p : PairRow). end_place p x.a) same
    ]

module _ {N O I : Type 0} (s : State (Load N O I)) (h : Holding N) (o : ObjId) (first : EndId) (w : MayShakeAt s h o.0 first) where
  abbrev pub c : Control
  c = w.control

  abbrev pub d : Control
  d = attach IsOpened first w.control

  within : first.pair.0 < length w.control.rows.pairs
  within = unmade_within w.control first (ap is_unmade w.mine)

  one_more : AttachesOne w.control (attach IsOpened first w.control) o.0 first
  one_more = record {
    attached = refl;
    owners = opened_owner w.control first;
    reasons = λ x. refl;
    others = All-weaker (λ x. IsApart first x) (IsElse c d first) (λ x apart. record { other = apart.mine; place = else_where w.control first within x apart }) c.attached w.apart;
    active = (attach_moved w.control IsOpened first within).here;
    mine = w.owner;
  }

  pub shaken_new : HasNowhere first h
  shaken_new i holds = not_yet c d o.0 first one_more w.names h i (w.has i holds)

  -- what a holder has goes by these names too
  pub all_named : (told : Names N) (names : EndId → Option N) → HasAll names w.control h → HasAll (named_more first told names) w.control h
  all_named told names has i holds =
      let was = has i holds in
      record {
        ends = was.ends;
        named = λ k x lt. more _ (was.named k x lt) (none was.ends k x lt);
        writes = was.writes;
        delimiters = was.delimiters;
        states = was.states;
      }
    where
      none : map (λ x. x.end) (h.ends i) ≡ here_ends c.rows.pairs c.attached i → All (λ x. IsApart first x.end) (h.ends i)
      none are =
          All-unmap (λ x. IsApart first x) (λ x. x.end) (h.ends i)
          (subst (λ (es : List EndId). All (λ x. IsApart first x) es) (sym are)
          (All-filter (λ x. is_here (place_of c x)) (λ x. IsApart first x) _ (All-filter (λ x. owner_of c x == i) (λ x. IsApart first x) c.attached w.apart)))

      still : (x : EndId) → is_end x first ≡ false → is_end x (other_end first) ≡ false → named_more first told names x ≡ names x
      still x mine theirs =
          ap (λ (b : Bool). if b then Some told.written else (if is_end x (other_end first) then Some told.read else names x)) mine
          ∙ ap (λ (b : Bool). if b then Some told.read else names x) theirs

      more : (x : Held N) → HasBothNames names x → IsApart first x.end → HasBothNames (named_more first told names) x
      more x both apart = record {
        written = still x.end apart.mine apart.theirs ∙ both.written;
        read = still (other_end x.end) (apart_mine first x.end apart) (apart_theirs first x.end apart) ∙ both.read;
      }

  abbrev pub is_marked : (t : State (Load N O I)) → Stands t w.control → IsMarked t o
  is_marked t stands = record { control = w.control; stands = stands; marks = w.marks }

  -- ---- with its owners
  module _ (own : Owners) (last : ObjId) (are : AreOwners w.control o last own) (last_is : owner_of w.control (other_end first) ≡ last.0) where
    abbrev pub have_places : HavePlaces s own
    have_places = record {
      first_box = subst (λ (n : ℕ). n < length s.boxes) are.first_slot w.box;
      last_box = subst (λ (n : ℕ). n < length s.boxes) (ap (λ (n : ℕ). (obj w.control.rows n).slot) last_is ∙ are.last_slot) w.other_box;
      first_list = subst (λ (x : ObjId). x.0 < length s.objects.lists) (sym are.first) w.list;
      last_list = subst (λ (x : ObjId). x.0 < length s.objects.lists) (sym are.last) (subst (λ (n : ℕ). n < length s.objects.lists) last_is w.other_list);
    }

    slot_is : (obj w.control.rows (owner_of w.control (other_end first))).slot ≡ own.last_slot.0
    slot_is = ap (λ (n : ℕ). (obj w.control.rows n).slot) last_is ∙ are.last_slot

    owner_is : own.last.0 ≡ owner_of w.control (other_end first)
    owner_is = ap (λ (x : ObjId). x.0) are.last ∙ sym last_is

    first_is : own.first.0 ≡ o.0
    first_is = ap (λ (x : ObjId). x.0) are.first

    module _ (mid : State (Load N O I)) (is : mid ≡ with_shake_room own s) (stands : Stands mid w.control) where
      abbrev lists_first : List Belongings
      lists_first = with_ends (with_room 1) own.first.0 s.objects.lists

      last_there : own.last.0 < length lists_first
      last_there = subst (λ (n : ℕ). own.last.0 < n) (sym (length-set s.objects.lists own.first.0 _)) have_places.last_list

      lists_are : mid.objects.lists ≡ with_ends (with_room 1) own.last.0 (with_ends (with_room 1) own.first.0 s.objects.lists)
      lists_are = ap (λ (x : State (Load N O I)). x.objects.lists) is

      ends_are : (i : ℕ) → ends_room mid.objects.lists i ≡ ends_room s.objects.lists i + cond (o.0 == i) 1 0 + cond (owner_of w.control (other_end first) == i) 1 0
      ends_are i =
          let same = ap (λ (l : List Belongings). ends_room l i) lists_are in
          let x = ends_grow lists_first own.last.0 i last_there in
          let y = ends_grow s.objects.lists own.first.0 i have_places.first_list in
          let a = ap {B = ℕ} (λ (n : ℕ). cond (n == i) 1 0) owner_is in
          let b = ap {B = ℕ} (λ (n : ℕ). cond (n == i) 1 0) first_is in
          omega (arith, same, x, y, a, b)

      pub some_there : (n : ℕ) → n ≡ o.0 → 0 < ends_room mid.objects.lists n
      some_there n same =
          let all = ends_are n in
          let on = ap {B = ℕ} (λ (b : Bool). cond b 1 0) (eq-eqb o.0 n (sym same)) in
          omega (arith, all, on)

      boxes_are : mid.boxes ≡ (with_both 0 1 own s).boxes
      boxes_are = ap (λ (x : State (Load N O I)). x.boxes) is

      pub roomier : HasBindRoom (obj w.control.rows (owner_of w.control (other_end first))).slot s.boxes mid.boxes
      roomier = record {
        commands = λ m.
            ap (λ (b : List (Mail (Command (Load N O I)))). (mail_at b m).commands) boxes_are
            ∙ more_commands (with_more own.first_slot.0 0 s) own.last_slot.0 1 m ∙ more_commands s own.first_slot.0 0 m;
        spare = spares;
        many = ap (λ (b : List (Mail (Command (Load N O I)))). length b) boxes_are ∙ length-set (with_more own.first_slot.0 0 s).boxes own.last_slot.0 _ ∙ length-set s.boxes own.first_slot.0 _;
      }
        where
          none : (b : Bool) → ◌≡◌ {A = ℕ} (cond b 0 0) 0
          none true = refl
          none false = refl

          spares : (m : ℕ) → (mail_at mid.boxes m).spare ≡ (mail_at s.boxes m).spare + cond ((obj w.control.rows (owner_of w.control (other_end first))).slot == m) 1 0
          spares m =
              let same = ap (λ (b : List (Mail (Command (Load N O I)))). (mail_at b m).spare) boxes_are in
              let x = more_spares (with_more own.first_slot.0 0 s) own.last_slot.0 1 m (subst (λ (n : ℕ). own.last_slot.0 < n) (sym (length-set s.boxes own.first_slot.0 _)) have_places.last_box) in
              let y = more_spares s own.first_slot.0 0 m have_places.first_box in
              let a = ap {B = ℕ} (λ (n : ℕ). cond (n == m) 1 0) slot_is in
              let b = none (own.first_slot.0 == m) in
              omega (arith, same, x, y, a, b)

      module _ (out_name : O → N) (in_name : I → N) (end : FirstEnd N O I) (k : Holding N) (joins : AttachesFirst out_name in_name o.0 first [] end h k) where
        abbrev now : Held N
        now = held_first first end

        -- the holder has the end, with whatever names
        pub has_attached : (names : EndId → Option N) → HasAll names w.control h → names first ≡ Some end.told.written → names (other_end first) ≡ Some end.told.read → HasAll names (attach IsOpened first w.control) k
        has_attached names has written read =
            has_one_more c d o.0 first one_more names joins.joins.mid k now refl joins.joins.joined joins.joins.begins (record { written = written; read = read })
            (has_stays names c o.0 h joins.joins.mid joins.joins.stays joins.joins.keeps has)

        abbrev pub all_names : EndId → Option N
        all_names = named_more first end.told w.names

        pub mine_named : named_more first end.told w.names first ≡ Some end.told.written
        mine_named = ap (λ (b : Bool). if b then Some end.told.written else (if is_end first (other_end first) then Some end.told.read else w.names first)) (end_self first)

        pub theirs_named : named_more first end.told w.names (other_end first) ≡ Some end.told.read
        theirs_named =
            ap (λ (b : Bool). if b then Some end.told.written else (if is_end (other_end first) (other_end first) then Some end.told.read else w.names (other_end first))) (not_same first.a)
            ∙ ap (λ (b : Bool). if b then Some end.told.read else w.names (other_end first)) (end_self (other_end first))
          where
            and_false : (b : Bool) → (b && false) ≡ false
            and_false true = refl
            and_false false = refl

            other_one : (a : Bool) → same_side (not a) a ≡ false
            other_one true = refl
            other_one false = refl

            not_same : (a : Bool) → ((first.pair.0 == first.pair.0) && same_side (not a) a) ≡ false
            not_same a = ap (λ (b : Bool). (first.pair.0 == first.pair.0) && b) (other_one a) ∙ and_false (first.pair.0 == first.pair.0)

        abbrev pub may_open_shaken : MayOpenShaken out_name in_name mid k first end.other
        may_open_shaken = record {
          control = w.control;
          names = all_names;
          stands = stands;
          has = has_attached all_names (all_named end.told w.names w.has) mine_named theirs_named;
          written = theirs_named ∙ ap Some (sym joins.other_written);
          read = mine_named ∙ ap Some (sym joins.other_read);
          lent = ap k.holds w.owner ∙ joins.joins.joined.now.objects o.0 ∙ joins.joins.stays.now.objects o.0 ∙ w.lent;
          mine = w.mine;
          theirs = w.theirs;
          lives = ap (λ (n : ℕ). has_ended (obj w.control.rows n).stage) w.owner ∙ w.lives;
          other_lives = w.other_lives;
          few_objects = w.few_objects;
          few_pairs = w.few_pairs;
          place = some_there (owner_of w.control first) w.owner;
          room = λ m. (let all = roomier.spare m in let most = w.room m in omega (arith, all, most));
          halves = record { out = joins.other_out; input = joins.other_in };
        }

        pub shakes : (identity : List ℕ) (t : State (Load N O I)) (then_held : Holding N) (notes : Notes N) → OpensShaken out_name in_name w.control first identity end.answer end.other mid t k then_held →
            notes.joined.items ≡ joins_named first [] end.answer end.told ∷ [] → notes.opened.items ≡ pipes_named first end.opened → Shakes out_name in_name w.control o.0 first identity notes s t h then_held
        shakes identity t then_held notes opens joined opened = record {
          answer = end.answer;
          told = end.told;
          refuses = joins.refuses;
          joined = joined;
          opened = opened ∙ ap (pipes_named first) joins.opened;
          stands = opens.stands;
          has = λ names has written read. opens.has names (has_attached names has written read) (read ∙ ap Some (sym joins.other_written)) (written ∙ ap Some (sym joins.other_read));
          roomy = mid.boxes;
          room = roomier;
          puts = λ names has written read. opens.puts names (has_attached names has written read) (read ∙ ap Some (sym joins.other_written)) (written ∙ ap Some (sym joins.other_read));
          turned = turns_on [] _ h k then_held joins.turned opens.turned;
          came = opens.joined ∙ joins.came ∙ ap (λ (js : List (Joining N)). h.joined ++ js) (sym joined);
          heard = opens.heard ∙ joins.heard;
          holds = λ i. opens.holds i ∙ joins.joins.joined.now.objects i ∙ joins.joins.stays.now.objects i;
          kinds = λ i. opens.kinds i ∙ joins.joins.joined.now.kinds i ∙ joins.joins.stays.now.kinds i;
          output = λ i. opens.output i ∙ joins.joins.joined.now.output i ∙ joins.joins.stays.now.output i;
          places = λ i.
              (let moved = ap (λ (l : List Belongings). ends_room l i) (opens.lists ∙ ap (λ (n : ℕ). with_ends (with_last first) n mid.objects.lists) w.owner) in
              let less = ends_shrink mid.objects.lists o.0 i first first_there (some_there o.0 refl) in
              let were = ends_are i in
              omega (arith, moved, less, were));
        }
          where
            first_there : o.0 < length mid.objects.lists
            first_there =
                subst (λ (l : List Belongings). o.0 < length l) (sym lists_are)
                (subst (λ (n : ℕ). o.0 < n) (sym (length-set lists_first own.last.0 _))
                (subst (λ (n : ℕ). o.0 < n) (sym (length-set s.objects.lists own.first.0 _)) w.list))

-- ---- how much its pipes hold
module _ {L : Type 0} (s : State L) (o : ObjId) (first : EndId) (may_make : EndId → ℕ → ℕ → Type 0) (m : MayMakeIn s o first may_make) where
  abbrev pub marked_still : (t : State L) → Stands t m.control → IsMarked t o
  marked_still t stands = record { control = m.control; stands = stands; marks = m.marks }

  pub may_make_sizes : (x : Capacities) → HoldsAs (inward (obj m.control.rows o.0).options first) x → may_make first x.written x.read
  may_make_sizes x hold =
      subst (λ (n : ℕ). may_make first n x.read) (sym hold.written)
      (subst (λ (n : ℕ). may_make first (inward (obj m.control.rows o.0).options first).written n) (sym hold.read) m.makes)
