-- That the first of the pairs that a bind has drawn is made.
use Rattle.std.specs.Prelude.{◌≡◌, ◌<◌, ◌≤◌, ◌⊎◌, ◌+◌, ◌==◌, ◌^◌, ◌++◌, ◌∷◌, [], ℕ, Bool, true, false, cond, List, Option, Some, All, if◌then◌else◌, length, map, slice_index_or, sum_by, refl}
use Rattle.std.proofs.Common.{arith, sym, ap, ◌∙◌, subst, inl, inr}
use Rattle.std.proofs.lemmas.Bool.{cases_lt, eq-eqb}
use Rattle.std.proofs.lemmas.List.{length-append, length-map, length_push, get_or_past}
use Rattle.std.proofs.lemmas.List.Elements.{All-head, All-tail, All-weaker}
use Rattle.std.proofs.lemmas.List.Sums.{sum_by-cons}
use Rattle.zq_base.specs.Ends.{other_end}
use Rattle.zq_base.specs.declared.endpoint.Endpoint.{Endpoint}
use Rattle.zq_base.specs.declared.ids.EndId.{EndId}
use Rattle.zq_base.specs.declared.ids.ObjId.{ObjId}
use Rattle.mailbox.specs.Mail.{Mail}
use Rattle.spec_control.specs.declared.letter.Letter.{Letter}
use Rattle.spec_control.specs.declared.letter.Word.TheVariants.{PipeBind}
use Rattle.spec_control.specs.declared.end.EndState.TheVariants.{Active}
use Rattle.spec_control.specs.Place.{Place}
use Rattle.spec_control.specs.Hold.{fulfil}
use Rattle.spec_control.specs.Stage.{has_ended, was_asked}
use Rattle.spec_control.specs.Row.{Row, nobody}
use Rattle.spec_control.specs.Rows.{PairRow, obj}
use Rattle.spec_control.specs.Control.{Control, draws, end_of, greet, next_pair, open_pair, owner_of, place_of}
use Rattle.desk.specs.declared.load.Load.{Load}
use Rattle.desk.specs.Holding.{Holding, has_end}
use Rattle.spec_control.specs.Held.{Held}
use Rattle.ctl_moves.specs.Turning.{PutsLoaded}
use Rattle.ctl_state.specs.declared.belongings.Belongings.{Belongings}
use Rattle.ctl_state.specs.declared.command.Command.{Command}
use Rattle.ctl_state.specs.declared.state.State.{State}
use Rattle.ctl_state.specs.Boxes.{mail_at}
use Rattle.ctl_state.specs.Listed.{with_last}
use Rattle.ctl_state.specs.Lists.{belongings_at, no_belongings, with_ends}
use Rattle.ctl_state.specs.Parts.{on_lists}
use Rattle.ctl_state.specs.Stands.{Stands, Updates, holds_by}
use Rattle.ctl_state.proofs.ReadLemmas.{read_less}
use Rattle.ctl_moves.specs.Greeting.{MovesOne}
use Rattle.ctl_moves.specs.Joining.{AreNamedHalves, JoinsPair, MayJoin}
use Rattle.ctl_moves.proofs.PairLemmas.{drawn_mine, drawn_other, drawn_owner, drawn_theirs, drawn_within}
use Rattle.ctl_moves.specs.declared.batch.Drawn.{Drawn}
use Rattle.ctl_moves.specs.Batch.{AreNumbered, behind, first_of, row_of}
use Rattle.ctl_moves.specs.Pairing.{CanJoin, JoinsNext, MayJoinNext, fulfilled, pair_made, puts_in}
use Rattle.ctl_moves.proofs.BehindLemmas.{draw_behind, made_behind, owner_behind, place_behind}
use Rattle.ctl_moves.proofs.GrowLemmas.{Grows, made_grows}
use Rattle.ctl_moves.proofs.TakenLemmas.{all_from, other_pair}

-- where there is room for ends there is a list
some_list : (lists : List Belongings) (i : ℕ) → 0 < (belongings_at lists i).ends.spare → i < length lists
some_list lists i some = by (cases_lt i (length lists))
  where
    by : (i < length lists) ⊎ (length lists ≤ i) → i < length lists
    by (inl less) = less
    by (inr past) = let none = ap (λ (b : Belongings). b.ends.spare) (get_or_past lists i no_belongings past) in omega (arith, none, some)

module _ {N O I : Type 0} (out_name : O → N) (in_name : I → N) (s : State (Load N O I)) (k : Holding N) (i : ObjId) (d : Drawn N O I) (w : MayJoinNext out_name in_name s k i d) where
  abbrev c : Control
  c = w.control

  abbrev rs : List PairRow
  rs = map row_of w.rest

  -- the control state with the number of this pair drawn, and with all that follow
  abbrev now : Control
  now = draws d.o.last.0 d.o.first.0 w.control

  abbrev all : Control
  all = behind (map row_of w.rest) (draws d.o.last.0 d.o.first.0 w.control)

  abbrev first : EndId
  first = first_of d

  pub number : d.pair.0 ≡ next_pair w.control
  number = w.can.numbers.0

  pub within : d.pair.0 < length (draws d.o.last.0 d.o.first.0 w.control).rows.pairs
  within = drawn_within c d.o.last.0 d.o.first.0 first number

  mine_is : d.o.first ≡ i
  mine_is = All-head (λ (x : Drawn N O I). x.o.first ≡ i) d w.rest w.can.owners

  pub owner_is : owner_of (behind (map row_of w.rest) (draws d.o.last.0 d.o.first.0 w.control)) (first_of d) ≡ i.0
  owner_is = owner_behind rs now first within ∙ drawn_owner c d.o.last.0 d.o.first.0 first number ∙ ap (λ (x : ObjId). x.0) mine_is

  pub other_is : owner_of (behind (map row_of w.rest) (draws d.o.last.0 d.o.first.0 w.control)) (other_end (first_of d)) ≡ d.o.last.0
  other_is = owner_behind rs now (other_end first) within ∙ drawn_other c d.o.last.0 d.o.first.0 first number

  pub some_place : 1 ≤ (belongings_at s.objects.lists i.0).ends.spare
  some_place = let all_fit = w.can.place in omega (arith, all_fit)

  pub room_there : 2 ≤ (mail_at s.boxes (obj w.control.rows d.o.last.0).slot).spare
  room_there =
      let slot = (obj w.control.rows d.o.last.0).slot in
      let enough = w.can.room slot in
      let parts = sum_by-cons (puts_in c slot) d w.rest in
      let two = ap {B = ℕ} (λ (b : Bool). cond b 2 0) (eq-eqb slot slot refl) in
      omega (arith, enough, parts, two)

  abbrev pub may_join : MayJoin out_name in_name s k i.0 (first_of d) d.other
  may_join = record {
    control = behind (map row_of w.rest) (draws d.o.last.0 d.o.first.0 w.control);
    stands = subst (λ (x : Control). Stands s x) (draw_behind rs d.o.last.0 d.o.first.0 c) w.can.stands;
    mine = place_behind rs now first within ∙ drawn_mine c d.o.last.0 d.o.first.0 first number;
    theirs = place_behind rs now (other_end first) within ∙ drawn_theirs c d.o.last.0 d.o.first.0 first number;
    unasked = ap (λ (n : ℕ). was_asked (obj c.rows n).stage) owner_is ∙ w.can.unasked;
    other_lives = ap (λ (n : ℕ). has_ended (obj c.rows n).stage) other_is ∙ All-head (λ (x : Drawn N O I). has_ended (obj c.rows x.o.last.0).stage ≡ false) d w.rest w.can.lives;
    unstruck = w.can.unstruck first (omega (arith, number));
    few_objects = w.can.few_objects;
    few_pairs =
        (let few = w.can.few_pairs in
        let one = length_push c.rows.pairs (row_of d) in
        let more = length-append (c.rows.pairs ++ row_of d ∷ []) rs in
        let many = length-map w.rest row_of in
        omega (arith, few, one, more, many));
    place = subst (λ (n : ℕ). 0 < (belongings_at s.objects.lists n).ends.spare) (sym owner_is) some_place;
    room = subst (λ (n : ℕ). 2 ≤ (mail_at s.boxes (obj c.rows n).slot).spare) (sym other_is) room_there;
    has = All-head (λ (x : Drawn N O I). has_end (first_of x) (k.ends i.0) ≡ true) d w.rest w.can.has;
    writes = All-head (λ (x : Drawn N O I). k.writes (first_of x) ≡ true) d w.rest w.can.writes;
    state = All-head (λ (x : Drawn N O I). k.state (first_of x) ≡ Active) d w.rest w.can.active;
    halves = All-head (λ (x : Drawn N O I). AreNamedHalves out_name in_name x.other) d w.rest w.can.halves;
  }

  module _ (at : Endpoint) (t u : State (Load N O I)) (l : Holding N)
      (joined : JoinsPair out_name in_name (behind (map row_of w.rest) (draws d.o.last.0 d.o.first.0 w.control))
      (greet d.answer (first_of d) (open_pair (first_of d) (PipeBind (other_end (first_of d)) d.identity) (behind (map row_of w.rest) (draws d.o.last.0 d.o.first.0 w.control)))) i.0 (first_of d) d.other s t k l)
      (updates : Updates (holds_by (fulfil at d.pair.0) d.o.last.0) t u) (ends : (j : ℕ) → (belongings_at u.objects.lists j).ends ≡ (belongings_at t.objects.lists j).ends) (rest : u ≡ on_lists (λ _. u.objects.lists) t) where
    grows : Grows (obj w.control.rows (owner_of (draws d.o.last.0 d.o.first.0 w.control) (other_end (first_of d)))).slot 2 (draws d.o.last.0 d.o.first.0 w.control) (pair_made d w.control)
    grows = made_grows d.answer first (PipeBind (other_end first) d.identity) now

    boxes_are : u.boxes ≡ t.boxes
    boxes_are = ap (λ (x : State (Load N O I)). x.boxes) rest

    made_stands : Stands t (behind (map row_of w.rest) (pair_made d w.control))
    made_stands = subst (λ (x : Control). Stands t x) (made_behind rs d.answer first (PipeBind (other_end first) d.identity) now within) joined.stands

    stands_now : Stands u (behind (map row_of w.rest) (fulfilled at d w.control))
    stands_now = updates (behind rs (pair_made d c)) made_stands

    next_is : next_pair (fulfilled at d w.control) ≡ next_pair w.control + 1
    next_is = grows.many ∙ length_push c.rows.pairs (row_of d)

    -- one end more stands in the list of the binding socket
    place_taken : (j : ℕ) → (belongings_at u.objects.lists j).ends.spare + cond (i.0 == j) 1 0 ≡ (belongings_at s.objects.lists j).ends.spare
    place_taken j =
        let same = ap (λ x. x.spare) (ends j) in
        let lists = ap (λ (ls : List Belongings). (belongings_at ls j).ends.spare) (joined.lists ∙ ap (λ (n : ℕ). with_ends (with_last first) n s.objects.lists) owner_is) in
        let some = some_place in
        let less = read_less (λ (b : Belongings). b.ends.spare) s.objects.lists i.0 j (record (belongings_at s.objects.lists i.0) { ends = with_last first (belongings_at s.objects.lists i.0).ends }) no_belongings (some_list s.objects.lists i.0 some_place) (omega (arith, some)) in
        omega (arith, same, lists, less)

    -- names by which the puts are counted
    abbrev some_names : EndId → Option N
    some_names e = if e.a then Some d.other.written else Some d.other.read

    room_left : (m : ℕ) → (mail_at s.boxes m).spare ≤ (mail_at u.boxes m).spare + puts_in w.control m d
    room_left m =
        let g = (joined.puts some_names refl refl).grows m in
        let all_there = ap (λ (xs : List (Command (Load N O I))). length xs) g.commands in
        let parts = length-append (mail_at s.boxes m).commands g.more in
        let spare = g.spare in
        let were = ap (λ (ls : List Letter). length ls) (w.can.stands.boxes.each m) in
        let were_many = length-map (mail_at s.boxes m).commands (λ (x : Command (Load N O I)). x.letter) in
        let are = ap (λ (ls : List Letter). length ls) (made_stands.boxes.each m) in
        let are_many = length-map (mail_at t.boxes m).commands (λ (x : Command (Load N O I)). x.letter) in
        let few = grows.boxes m in
        let theirs = ap {B = ℕ} (λ (n : ℕ). cond ((obj c.rows n).slot == m) 2 0) (drawn_other c d.o.last.0 d.o.first.0 first number) in
        let same = ap (λ (b : List (Mail (Command (Load N O I)))). (mail_at b m).spare) boxes_are in
        omega (arith, all_there, parts, spare, were, were_many, are, are_many, few, theirs, same)

    has_now : All (λ (x : Drawn N O I). has_end (first_of x) (l.ends i.0) ≡ true) w.rest
    has_now =
        subst (λ (hs : List (Held N)). All (λ (x : Drawn N O I). has_end (first_of x) hs ≡ true) w.rest) (sym joined.stays.now.ends)
        (All-tail (λ (x : Drawn N O I). has_end (first_of x) (k.ends i.0) ≡ true) d w.rest w.can.has)

    later : All (λ (x : Drawn N O I). d.pair.0 < x.pair.0) w.rest
    later = λ j y lt.
        (let above : d.pair.0 + 1 ≤ (slice_index_or w.rest j y).pair.0 = all_from (next_pair w.control + 1) w.rest w.can.numbers.1 (d.pair.0 + 1) (let is = number in omega (arith, is)) j y lt in
        omega (arith, above))

    -- the pair's first end has moved as it was told
    first_now : place_of (greet d.answer (first_of d) (open_pair (first_of d) (PipeBind (other_end (first_of d)) d.identity) (behind (map row_of w.rest) (draws d.o.last.0 d.o.first.0 w.control)))) (first_of d) ≡ place_of (fulfilled at d w.control) (first_of d)
    first_now =
        ap (λ (x : Control). place_of x first) (made_behind rs d.answer first (PipeBind (other_end first) d.identity) now within)
        ∙ place_behind rs (pair_made d c) first (let more = grows.many in let less = within in omega (arith, more, less))

    can_now : CanJoin out_name in_name (fulfilled at d w.control) u l i w.rest
    can_now = record {
      stands = stands_now;
      numbers = subst (λ (n : ℕ). AreNumbered n w.rest) (sym next_is) w.can.numbers.1;
      owners = All-tail (λ (x : Drawn N O I). x.o.first ≡ i) d w.rest w.can.owners;
      unasked = ap (λ (os : List Row). was_asked (slice_index_or os i.0 nobody).stage) grows.objects ∙ w.can.unasked;
      lives = subst (λ (os : List Row). All (λ (x : Drawn N O I). has_ended (slice_index_or os x.o.last.0 nobody).stage ≡ false) w.rest) (sym grows.objects)
          (All-tail (λ (x : Drawn N O I). has_ended (obj c.rows x.o.last.0).stage ≡ false) d w.rest w.can.lives);
      unstruck = λ e past. grows.struck e ∙ w.can.unstruck e (let next = next_is in omega (arith, past, next));
      few_objects = subst (λ (os : List Row). length os < 2 ^ 62) (sym grows.objects) w.can.few_objects;
      few_pairs = (let few = w.can.few_pairs in let next = next_is in omega (arith, few, next));
      place = (let enough = w.can.place in let taken = place_taken i.0 in let one = ap {B = ℕ} (λ (b : Bool). cond b 1 0) (eq-eqb i.0 i.0 refl) in omega (arith, enough, taken, one));
      room = λ m.
          (let enough = w.can.room m in
          let parts = sum_by-cons (puts_in c m) d w.rest in
          let left = room_left m in
          let same = ap (λ (os : List Row). sum_by (λ (x : Drawn N O I). cond ((slice_index_or os x.o.last.0 nobody).slot == m) 2 0) w.rest) grows.objects in
          omega (arith, enough, parts, left, same));
      has = has_now;
      active = λ j y lt.
          (let x : Drawn N O I = slice_index_or w.rest j y in
          joined.moves.others i.0 (first_of x) (has_now j y lt) (other_pair (first_of d) (first_of x) (later j y lt)) ∙ All-tail (λ (z : Drawn N O I). k.state (first_of z) ≡ Active) d w.rest w.can.active j y lt);
      writes = All-weaker (λ (x : Drawn N O I). k.writes (first_of x) ≡ true) (λ (x : Drawn N O I). l.writes (first_of x) ≡ true) (λ x is. joined.stays.writers (first_of x) ∙ is) w.rest
          (All-tail (λ (x : Drawn N O I). k.writes (first_of x) ≡ true) d w.rest w.can.writes);
      halves = All-tail (λ (x : Drawn N O I). AreNamedHalves out_name in_name x.other) d w.rest w.can.halves;
    }

    pub joins_next : JoinsNext out_name in_name at w.control i d w.rest s u k l
    joins_next = record {
      can = can_now;
      joins = record {
        stays = joined.stays;
        puts = λ names named.
            (let mine = All-head (λ (x : Drawn N O I). (names (end_of x.pair.0 true) ≡ Some x.other.written) × (names (first_of x) ≡ Some x.other.read)) d [] named in
            subst (λ (b : List (Mail (Command (Load N O I)))). PutsLoaded out_name in_name names s.boxes b) (sym boxes_are) (joined.puts names mine.0 mine.1));
        places = λ j. (let taken = place_taken j in omega (arith, taken));
      };
      moves = subst (λ (p : Place). MovesOne first p (place_of (fulfilled at d c) first) k l) may_join.mine
          (subst (λ (p : Place). MovesOne first (place_of all first) p k l) first_now joined.moves);
    }
