-- That pairs that were drawn can be made, in all the room that was kept for them.
use Rattle.std.specs.Prelude.{◌≡◌, ◌<◌, ◌≤◌, ◌+◌, ◌==◌, ◌^◌, ◌||◌, ◌∷◌, [], ℕ, Bool, true, false, cond, List, All, length, map, sum_by, refl}
use Rattle.std.proofs.Common.{arith, sym, ap, ◌∙◌, subst}
use Rattle.std.proofs.lemmas.Bool.{eq-eqb}
use Rattle.std.proofs.lemmas.List.{get_or_past, length-map, length-set}
use Rattle.std.proofs.lemmas.List.Elements.{All-cons, All-head, All-nil, All-tail, All-weaker}
use Rattle.std.proofs.lemmas.List.Folds.{list_any-append}
use Rattle.std.proofs.lemmas.List.Sums.{sum_by-cons}
use Rattle.zq_base.specs.declared.ids.EndId.{EndId}
use Rattle.zq_base.specs.declared.ids.ObjId.{ObjId}
use Rattle.mailbox.specs.Mail.{Mail, no_mail, with_spare}
use Rattle.spec_control.specs.declared.end.EndState.TheVariants.{Active}
use Rattle.spec_control.specs.Stage.{has_ended, was_asked}
use Rattle.spec_control.specs.Rows.{Rows, obj}
use Rattle.spec_control.specs.Control.{Control, is_end, next_pair}
use Rattle.spec_control.specs.Held.{Held}
use Rattle.control_laws.proofs.ListLemmas.{never}
use Rattle.control_laws.proofs.AskLemmas.{end_self}
use Rattle.desk.specs.declared.load.Load.{Load}
use Rattle.desk.specs.Holding.{Holding, has_end}
use Rattle.ctl_state.specs.declared.belongings.Belongings.{Belongings}
use Rattle.ctl_state.specs.declared.command.Command.{Command}
use Rattle.ctl_state.specs.declared.pair.Entry.{Entry}
use Rattle.ctl_state.specs.declared.state.State.{State}
use Rattle.ctl_state.specs.Boxes.{mail_at}
use Rattle.ctl_state.specs.Listed.{with_room}
use Rattle.ctl_state.specs.Lists.{belongings_at, no_belongings, with_ends}
use Rattle.ctl_state.specs.Pairs.{no_entry, struck_in}
use Rattle.ctl_state.specs.Stands.{Stands}
use Rattle.ctl_state.proofs.ReadLemmas.{read_kept, read_more}
use Rattle.ctl_moves.specs.declared.notes.Notes.{Notes}
use Rattle.ctl_moves.specs.declared.owners.Owners.{Owners}
use Rattle.ctl_moves.specs.Joining.{AreNamedHalves}
use Rattle.ctl_moves.specs.Room.{HavePlaces, with_drawn, with_more}
use Rattle.ctl_moves.specs.declared.batch.Drawn.{Drawn}
use Rattle.ctl_moves.specs.Batch.{AreNumbered, behind, drawn_all, first_of, held_of, row_of}
use Rattle.ctl_moves.specs.Drawing.{Draws, IsDrawn}
use Rattle.ctl_moves.specs.Pairing.{CanJoin, bind_for, puts_in}
use Rattle.ctl_moves.proofs.TakenLemmas.{drawn_places}

or_left : (a b : Bool) → a ≡ true → (a || b) ≡ true
or_left true b is = refl
or_left false b is = absurd (never is)

or_right : (a b : Bool) → b ≡ true → (a || b) ≡ true
or_right true b is = refl
or_right false b is = is

-- what is so of each in a list that was made of another one
pub all_of : {X Y : Type 0} (f : X → Y) (P : Y → Type 0) (xs : List X) → All P (map f xs) → All (λ x. P (f x)) xs
all_of f P [] all = All-nil (λ x. P (f x))
all_of f P (x ∷ xs) all = All-cons (λ y. P (f y)) x xs (All-head P (f x) (map f xs) all) (all_of f P xs (All-tail P (f x) (map f xs) all))

-- ---- room
module _ {L : Type 0} (s : State L) (o : Owners) (places : HavePlaces s o) where
  one_spare : (m : ℕ) → (mail_at (with_drawn false o s).boxes m).spare ≡ (mail_at s.boxes m).spare + (cond (o.first_slot.0 == m) 2 0 + cond (o.last_slot.0 == m) 3 0)
  one_spare m =
      let first = read_more (λ (x : Mail (Command L)). x.spare) s.boxes o.first_slot.0 m first_mail no_mail 2 places.first_box refl in
      let last = read_more (λ (x : Mail (Command L)). x.spare) (with_more o.first_slot.0 2 s).boxes o.last_slot.0 m last_mail no_mail 3 (subst (λ (n : ℕ). o.last_slot.0 < n) (sym (length-set s.boxes o.first_slot.0 first_mail)) places.last_box) refl in
      omega (arith, first, last)
    where
      first_mail : Mail (Command L)
      first_mail = with_spare ((mail_at s.boxes o.first_slot.0).spare + 2) (mail_at s.boxes o.first_slot.0)

      last_mail : Mail (Command L)
      last_mail = with_spare ((mail_at (with_more o.first_slot.0 2 s).boxes o.last_slot.0).spare + 3) (mail_at (with_more o.first_slot.0 2 s).boxes o.last_slot.0)

  one_place : (j : ℕ) → (belongings_at (with_drawn false o s).objects.lists j).ends.spare ≡ (belongings_at s.objects.lists j).ends.spare + (cond (o.first.0 == j) 1 0 + cond (o.last.0 == j) 1 0)
  one_place j =
      let first = read_more (λ (b : Belongings). b.ends.spare) s.objects.lists o.first.0 j first_one no_belongings 1 places.first_list refl in
      let last = read_more (λ (b : Belongings). b.ends.spare) (with_ends (with_room 1) o.first.0 s.objects.lists) o.last.0 j last_one no_belongings 1 (subst (λ (n : ℕ). o.last.0 < n) (sym (length-set s.objects.lists o.first.0 first_one)) places.last_list) refl in
      omega (arith, first, last)
    where
      first_one : Belongings
      first_one = record (belongings_at s.objects.lists o.first.0) { ends = with_room 1 (belongings_at s.objects.lists o.first.0).ends }

      last_one : Belongings
      last_one =
          let mid = with_ends (with_room 1) o.first.0 s.objects.lists in
          record (belongings_at mid o.last.0) { ends = with_room 1 (belongings_at mid o.last.0).ends }

module _ {N O I : Type 0} where
  -- a pair's room, in a mailbox and in the list of an object's ends
  abbrev pub room_in : ℕ → Drawn N O I → ℕ
  room_in m d = cond (d.o.first_slot.0 == m) 2 0 + cond (d.o.last_slot.0 == m) 3 0

  abbrev pub place_in : ℕ → Drawn N O I → ℕ
  place_in j d = cond (d.o.first.0 == j) 1 0 + cond (d.o.last.0 == j) 1 0

  places_on : {L : Type 0} (d : Drawn N O I) (ds : List (Drawn N O I)) (s : State L) → All (λ (x : Drawn N O I). HavePlaces s x.o) ds → All (λ (x : Drawn N O I). HavePlaces (with_drawn false d.o s) x.o) ds
  places_on d ds s all = All-weaker (λ (x : Drawn N O I). HavePlaces s x.o) (λ (x : Drawn N O I). HavePlaces (with_drawn false d.o s) x.o) (λ x p. drawn_places (d ∷ []) s x.o p) ds all

  pub drawn_spare : {L : Type 0} (ds : List (Drawn N O I)) (s : State L) → All (λ (d : Drawn N O I). HavePlaces s d.o) ds → (m : ℕ) → (mail_at (drawn_all ds s).boxes m).spare ≡ (mail_at s.boxes m).spare + sum_by (room_in m) ds
  drawn_spare [] s places m = omega arith
  drawn_spare (d ∷ ds) s places m =
      let P = λ (x : Drawn N O I). HavePlaces s x.o in
      let one = one_spare s d.o (All-head P d ds places) m in
      let rest = drawn_spare ds (with_drawn false d.o s) (places_on d ds s (All-tail P d ds places)) m in
      let all = sum_by-cons (room_in m) d ds in
      omega (arith, one, rest, all)

  -- and what waits in the mailboxes is the same
  pub drawn_commands : {L : Type 0} (ds : List (Drawn N O I)) (s : State L) (m : ℕ) → (mail_at (drawn_all ds s).boxes m).commands ≡ (mail_at s.boxes m).commands
  drawn_commands [] s m = refl
  drawn_commands {L = L} (d ∷ ds) s m =
      drawn_commands ds (with_drawn false d.o s) m
      ∙ (read_kept (λ (x : Mail (Command L)). x.commands) _ d.o.last_slot.0 m _ no_mail refl ∙ read_kept (λ (x : Mail (Command L)). x.commands) s.boxes d.o.first_slot.0 m _ no_mail refl)

  pub drawn_ends : {L : Type 0} (ds : List (Drawn N O I)) (s : State L) → All (λ (d : Drawn N O I). HavePlaces s d.o) ds → (j : ℕ) →
      (belongings_at (drawn_all ds s).objects.lists j).ends.spare ≡ (belongings_at s.objects.lists j).ends.spare + sum_by (place_in j) ds
  drawn_ends [] s places j = omega arith
  drawn_ends (d ∷ ds) s places j =
      let P = λ (x : Drawn N O I). HavePlaces s x.o in
      let one = one_place s d.o (All-head P d ds places) j in
      let rest = drawn_ends ds (with_drawn false d.o s) (places_on d ds s (All-tail P d ds places)) j in
      let all = sum_by-cons (place_in j) d ds in
      omega (arith, one, rest, all)

  -- the binding socket's places and those of the others
  pub places_split : (i : ℕ) (ds : List (Drawn N O I)) → All (λ (d : Drawn N O I). d.o.first.0 ≡ i) ds → (j : ℕ) → sum_by (place_in j) ds ≡ cond (i == j) (length ds) 0 + sum_by (bind_for j) ds
  places_split i [] all j = zero_is (i == j)
    where
      zero_is : (b : Bool) → ◌≡◌ {A = ℕ} 0 (cond b 0 0 + 0)
      zero_is true = refl
      zero_is false = refl
  places_split i (d ∷ ds) all j =
      let mine = ap {B = ℕ} (λ (n : ℕ). cond (n == j) 1 0) (All-head (λ (x : Drawn N O I). x.o.first.0 ≡ i) d ds all) in
      let rest = places_split i ds (All-tail (λ (x : Drawn N O I). x.o.first.0 ≡ i) d ds all) j in
      let places = sum_by-cons (place_in j) d ds in
      let binds = sum_by-cons (bind_for j) d ds in
      let more = one_more (i == j) in
      omega (arith, mine, rest, places, binds, more)
    where
      one_more : (b : Bool) → ◌≡◌ {A = ℕ} (cond b (length (d ∷ ds)) 0) (cond b 1 0 + cond b (length ds) 0)
      one_more true = omega arith
      one_more false = omega arith

  -- what a pair's making puts fits in its room
  puts_fit : (c : Control) (m : ℕ) (ds : List (Drawn N O I)) → All (λ (d : Drawn N O I). (obj c.rows d.o.last.0).slot ≡ d.o.last_slot.0) ds → sum_by (puts_in c m) ds ≤ sum_by (room_in m) ds
  puts_fit c m [] all = omega arith
  puts_fit c m (d ∷ ds) all =
      let slot = ap {B = ℕ} (λ (n : ℕ). cond (n == m) 2 0) (All-head (λ (x : Drawn N O I). (obj c.rows x.o.last.0).slot ≡ x.o.last_slot.0) d ds all) in
      let rest = puts_fit c m ds (All-tail (λ (x : Drawn N O I). (obj c.rows x.o.last.0).slot ≡ x.o.last_slot.0) d ds all) in
      let puts = sum_by-cons (puts_in c m) d ds in
      let room = sum_by-cons (room_in m) d ds in
      let less = two_three (d.o.last_slot.0 == m) in
      omega (arith, slot, rest, puts, room, less)
    where
      two_three : (b : Bool) → cond b 2 0 ≤ cond b 3 0
      two_three true = omega arith
      two_three false = omega arith

  -- ---- at the holder
  held_among : (ds : List (Drawn N O I)) → All (λ (d : Drawn N O I). has_end (first_of d) (map held_of ds) ≡ true) ds
  held_among [] = All-nil (λ (d : Drawn N O I). has_end {N = N} (first_of d) [] ≡ true)
  held_among (d ∷ ds) =
      All-cons (λ (x : Drawn N O I). (is_end (first_of x) (first_of d) || has_end (first_of x) (map held_of ds)) ≡ true) d ds (or_left (is_end (first_of d) (first_of d)) (has_end (first_of d) (map held_of ds)) (end_self (first_of d)))
      (All-weaker (λ (x : Drawn N O I). has_end (first_of x) (map held_of ds) ≡ true) (λ (x : Drawn N O I). (is_end (first_of x) (first_of d) || has_end (first_of x) (map held_of ds)) ≡ true)
      (λ x is. or_right (is_end (first_of x) (first_of d)) (has_end (first_of x) (map held_of ds)) is) ds (held_among ds))

  -- ---- the pairs can be made
  module _ (out_name : O → N) (in_name : I → N) (c now : Control) (i : ObjId) (ws : List ObjId) (ds : List (Drawn N O I)) (notes : Notes N) (s t u : State (Load N O I)) (h k : Holding N)
      (draws : Draws out_name in_name c i ws ds notes s t h k) (was : Stands s c) (stands : Stands u (behind (map row_of ds) now)) (rows : now.rows ≡ c.rows) (struck : (e : EndId) → now.struck e ≡ c.struck e)
      (boxes : u.boxes ≡ t.boxes) (ends : (j : ℕ) → (belongings_at u.objects.lists j).ends ≡ (belongings_at t.objects.lists j).ends) where
    pub numbers_are : AreNumbered (next_pair c) ds
    numbers_are = subst (λ (n : ℕ). AreNumbered n ds) (sym was.pairs.many) draws.taken.numbers

    pub mine_are : All (λ (d : Drawn N O I). d.o.first ≡ i) ds
    mine_are = All-weaker (IsDrawn out_name in_name c i (h.kind i.0)) (λ (d : Drawn N O I). d.o.first ≡ i) (λ d is. is.owners.first) ds draws.drawn

    pub mine_numbers : All (λ (d : Drawn N O I). d.o.first.0 ≡ i.0) ds
    mine_numbers = All-weaker (λ (d : Drawn N O I). d.o.first ≡ i) (λ (d : Drawn N O I). d.o.first.0 ≡ i.0) (λ d is. ap (λ (x : ObjId). x.0) is) ds mine_are

    pub as_many : length ds ≡ length ws
    as_many = sym (length-map ds (λ (d : Drawn N O I). d.o.last)) ∙ ap (λ (xs : List ObjId). length xs) draws.waiters

    pub none_struck : (e : EndId) → next_pair c ≤ e.pair.0 → c.struck e ≡ false
    none_struck e past = was.pairs.struck_are e ∙ ap (λ (p : Entry). struck_in p e.a) (get_or_past s.pairs e.pair.0 no_entry (let many = was.pairs.many in omega (arith, many, past))) ∙ unstruck e.a
      where
        unstruck : (a : Bool) → struck_in no_entry a ≡ false
        unstruck true = refl
        unstruck false = refl

    places_are : (j : ℕ) → (belongings_at u.objects.lists j).ends.spare ≡ (belongings_at s.objects.lists j).ends.spare + (cond (i.0 == j) (length ds) 0 + sum_by (bind_for j) ds)
    places_are j =
        let same = ap (λ x. x.spare) (ends j) in
        let lists = ap (λ (x : State (Load N O I)). (belongings_at x.objects.lists j).ends.spare) draws.taken.is in
        let all = drawn_ends ds s draws.taken.places j in
        let split = places_split i.0 ds mine_numbers j in
        omega (arith, same, lists, all, split)

    pub can_join : was_asked (obj c.rows i.0).stage ≡ false → All (λ (w : ObjId). has_ended (obj c.rows w.0).stage ≡ false) ws → length c.rows.objects < 2 ^ 62 → length c.rows.pairs + length ws < 2 ^ 30 → CanJoin out_name in_name now u k i ds
    can_join unasked lives few_objects few_pairs = record {
      stands = stands;
      numbers = subst (λ (r : Rows). AreNumbered (length r.pairs) ds) (sym rows) numbers_are;
      owners = mine_are;
      unasked = subst (λ (r : Rows). was_asked (obj r i.0).stage ≡ false) (sym rows) unasked;
      lives = subst (λ (r : Rows). All (λ (d : Drawn N O I). has_ended (obj r d.o.last.0).stage ≡ false) ds) (sym rows)
          (all_of (λ (d : Drawn N O I). d.o.last) (λ (w : ObjId). has_ended (obj c.rows w.0).stage ≡ false) ds (subst (λ (xs : List ObjId). All (λ (w : ObjId). has_ended (obj c.rows w.0).stage ≡ false) xs) (sym draws.waiters) lives));
      unstruck = λ e past. struck e ∙ none_struck e (subst (λ (r : Rows). length r.pairs ≤ e.pair.0) rows past);
      few_objects = subst (λ (r : Rows). length r.objects < 2 ^ 62) (sym rows) few_objects;
      few_pairs = subst (λ (r : Rows). length r.pairs + length ds < 2 ^ 30) (sym rows) (let many = as_many in omega (arith, many, few_pairs));
      place = (let are = places_are i.0 in let mine = ap {B = ℕ} (λ (b : Bool). cond b (length ds) 0) (eq-eqb i.0 i.0 refl) in omega (arith, are, mine));
      room = λ m.
          (let same = ap (λ (b : List (Mail (Command (Load N O I)))). (mail_at b m).spare) boxes in
          let drawn = ap (λ (x : State (Load N O I)). (mail_at x.boxes m).spare) draws.taken.is in
          let all = drawn_spare ds s draws.taken.places m in
          let fit = puts_fit c m ds (All-weaker (IsDrawn out_name in_name c i (h.kind i.0)) (λ (d : Drawn N O I). (obj c.rows d.o.last.0).slot ≡ d.o.last_slot.0) (λ d is. is.owners.last_slot) ds draws.drawn) in
          let rows_same = ap (λ (r : Rows). sum_by (λ (d : Drawn N O I). cond ((obj r d.o.last.0).slot == m) 2 0) ds) rows in
          omega (arith, same, drawn, all, fit, rows_same));
      has = All-weaker (λ (d : Drawn N O I). has_end (first_of d) (map held_of ds) ≡ true) (λ (d : Drawn N O I). has_end (first_of d) (k.ends i.0) ≡ true)
          (λ d is. ap (has_end (first_of d)) draws.taken.gets.ends ∙ list_any-append (λ (y : Held N). is_end (first_of d) y.end) (h.ends i.0) (map held_of ds) ∙ or_right (has_end (first_of d) (h.ends i.0)) (has_end (first_of d) (map held_of ds)) is) ds (held_among ds);
      active = All-weaker (λ (d : Drawn N O I). has_end (first_of d) (map held_of ds) ≡ true) (λ (d : Drawn N O I). k.state (first_of d) ≡ Active) (λ d is. draws.taken.active (first_of d) is) ds (held_among ds);
      writes = all_of held_of (λ (y : Held N). k.writes y.end ≡ true) ds draws.taken.gets.mine;
      halves = All-weaker (IsDrawn out_name in_name c i (h.kind i.0)) (λ (d : Drawn N O I). AreNamedHalves out_name in_name d.other) (λ d is. is.halves) ds draws.drawn;
    }

    -- where the pairs are made, places are left for the ends whose binds are on their way
    pub places_left : (v : State (Load N O I)) → ((j : ℕ) → (belongings_at u.objects.lists j).ends.spare ≤ (belongings_at v.objects.lists j).ends.spare + cond (i.0 == j) (length ds) 0) →
        (j : ℕ) → (belongings_at s.objects.lists j).ends.spare + sum_by (bind_for j) ds ≤ (belongings_at v.objects.lists j).ends.spare
    places_left v less j = let are = places_are j in let taken = less j in omega (arith, are, taken)
